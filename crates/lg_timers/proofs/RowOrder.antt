-- The order of timers in a row doesn't matter: whether their ids are distinct, and the same timers in turn.
use Rattle.std.proofs.Common.{◌≡◌, ℕ, ◌+◌, ◌≤◌, Bool, true, false, cond, ◌||◌, IsTrue, List, [], ◌∷◌, map, refl, subst, inl, inr, arith}
use Rattle.std.specs.List.{sum_by}
use Rattle.std.specs.List.Sorted.{IsPermutation}
use Rattle.std.proofs.lemmas.Bool.{cases_Bool}
use Rattle.std.proofs.lemmas.List.Sorted.{IsPermutation-map, list_any-IsPermutation, sum_by-IsPermutation}
use Rattle.std.proofs.lemmas.List.Sums.{sum_by-cons}
use Rattle.lg_rules.specs.Meaning.Rows.{name_cmp, is_same}
use Rattle.lg_rules.proofs.KeyOrder.{names_order, same_key}
use Rattle.lg_timers.specs.declared.timer.Timer.{Timer}
use Rattle.lg_timers.specs.declared.timer.TimerId.{TimerId}
use Rattle.lg_timers.specs.Meaning.Timers.{id_key, timer_key, has_id, is_set, have_distinct_ids, in_turn}
use Rattle.lg_timers.proofs.KeyLaws.{has_id-is}
use Rattle.lg_timers.proofs.Pending.{in_turn-same}
use Rattle.lg_timers.proofs.TurnLaws.{apart_first, distinct_rest}

-- the same timers in another order come in one turn
pub in_turn-permutation : (ss ts : List Timer) → IsPermutation ss ts → in_turn ss ≡ in_turn ts
in_turn-permutation ss ts moved =
    in_turn-same ss ts (λ k. list_any-IsPermutation (λ m. is_same name_cmp m k) (map timer_key ss) (map timer_key ts) (IsPermutation-map timer_key ss ts moved))

-- how many timers have an id
pub one_of : TimerId → Timer → ℕ
one_of id t = cond (has_id id t) 1 0

pub count_of : TimerId → List Timer → ℕ
count_of id timers = sum_by (one_of id) timers

count-cons : (id : TimerId) (t : Timer) (timers : List Timer) → count_of id (t ∷ timers) ≡ one_of id t + count_of id timers
unfolding count_of
count-cons id t timers = sum_by-cons (one_of id) t timers

one-has : (id : TimerId) (t : Timer) → has_id id t ≡ true → one_of id t ≡ 1
unfolding one_of
one-has id t e = rw e

one-lacks : (id : TimerId) (t : Timer) → has_id id t ≡ false → one_of id t ≡ 0
unfolding one_of
one-lacks id t e = rw e

count-none : (id : TimerId) (timers : List Timer) → is_set id timers ≡ false → count_of id timers ≡ 0
unfolding count_of
count-none id [] e = refl
count-none id (t ∷ timers) e = step (has_id id t) refl e (count-none id timers)
  where
    step : (b : Bool) → has_id id t ≡ b → (b || is_set id timers) ≡ false → (is_set id timers ≡ false → count_of id timers ≡ 0) → count_of id (t ∷ timers) ≡ 0
    step true h bad none = absurd cc
    step false h rest none = omega (arith, count-cons id t timers, one-lacks id t h, none rest)

count-some : (id : TimerId) (timers : List Timer) → is_set id timers ≡ true → 1 ≤ count_of id timers
count-some id [] e = absurd cc
count-some id (t ∷ timers) e = step (has_id id t) refl e (count-some id timers)
  where
    step : (b : Bool) → has_id id t ≡ b → (b || is_set id timers) ≡ true → (is_set id timers ≡ true → 1 ≤ count_of id timers) → 1 ≤ count_of id (t ∷ timers)
    step true h rest some = omega (arith, count-cons id t timers, one-has id t h)
    step false h rest some = omega (arith, count-cons id t timers, some rest)

own : (t : Timer) → has_id t.id t ≡ true
own t = same_key names_order (id_key t.id) (id_key t.id) refl

-- ids are distinct where no more than one timer has each
pub record AreSingle (timers : List Timer) : Type 0 where
  pub single : (id : TimerId) → count_of id timers ≤ 1

single_distinct : (timers : List Timer) → AreSingle timers → IsTrue (have_distinct_ids timers)
single_distinct [] s = refl
single_distinct (t ∷ timers) s = elim (cases_Bool (is_set t.id timers)) [
  | inl set ↦ absurd (omega (arith, s.single t.id, count-cons t.id t timers, one-has t.id t (own t), count-some t.id timers set))
  | inr apart ↦ rw apart (single_distinct timers (record { single = λ id. omega (arith, s.single id, count-cons id t timers) }))
]

distinct_single : (timers : List Timer) → IsTrue (have_distinct_ids timers) → AreSingle timers
unfolding count_of
distinct_single [] d = record { single = λ id. omega arith }
distinct_single (t ∷ timers) d = record { single = λ id. step id (has_id id t) refl ((distinct_single timers (distinct_rest t timers d)).single id) }
  where
    step : (id : TimerId) (b : Bool) → has_id id t ≡ b → count_of id timers ≤ 1 → count_of id (t ∷ timers) ≤ 1
    step id true h few =
        let none : is_set id timers ≡ false = subst (λ (i : TimerId). is_set i timers ≡ false) (has_id-is id t h) (apart_first t timers d) in
        omega (arith, count-cons id t timers, one-has id t h, count-none id timers none)
    step id false h few = omega (arith, count-cons id t timers, one-lacks id t h, few)

pub distinct-permutation : (ss ts : List Timer) → IsPermutation ss ts → IsTrue (have_distinct_ids ss) → IsTrue (have_distinct_ids ts)
unfolding count_of
distinct-permutation ss ts moved d =
    let s = distinct_single ss d in
    single_distinct ts (record { single = λ id. omega (arith, s.single id, sum_by-IsPermutation (one_of id) ss ts moved) })
