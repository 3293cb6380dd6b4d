-- Timers in the order in which they fire, once one is set.
use Rattle.std.proofs.Common.{◌≡◌, suc, Bool, true, false, not, ◌||◌, IsTrue, List, [], ◌∷◌, length, map, Some, refl, sym, ◌∙◌, ap, subst}
use Rattle.std.specs.List.{list_any}
use Rattle.std.specs.declared.cmp.Ordering.TheVariants.{Less, Equal, Greater}
use Rattle.std.proofs.lemmas.Bool.{false≢true}
use Rattle.lg_rules.proofs.Tests.{both}
use Rattle.lg_rules.specs.Meaning.Rows.{name_cmp, is_same, is_among, put_key, in_order, Rises}
use Rattle.lg_rules.proofs.Cases.{Below, Tied, Above, compared}
use Rattle.lg_rules.proofs.KeyOrder.{names_order, turned, same_back}
use Rattle.lg_rules.proofs.Rises.{among-in_order, rises-in_order, among-cons_same}
use Rattle.lg_timers.specs.declared.timer.Timer.{Timer}
use Rattle.lg_timers.specs.Meaning.Timers.{id_key, timer_key, timer_cmp, has_id, is_set, have_distinct_ids, with_timer, in_turn, least_of}
use Rattle.lg_timers.specs.Support.InTurn.{earlier}
use Rattle.lg_timers.proofs.KeyLaws.{not_set}

-- no timer of these has the list of this one
pub record IsFresh (t : Timer) (timers : List Timer) : Type 0 where
  pub apart : is_among name_cmp (timer_key t) (map timer_key timers) ≡ false

pub map-with_timer : (t : Timer) (timers : List Timer) → map timer_key (with_timer t timers) ≡ put_key name_cmp (timer_key t) (map timer_key timers)
map-with_timer t [] = refl
map-with_timer t (u ∷ timers) = elim (compared (timer_cmp t u)) [
  | Below l ↦ rw l
  | Tied e ↦ rw e
  | Above g ↦ rw g (ap (λ ks. timer_key u ∷ ks) (map-with_timer t timers))
]

pub map-in_turn : (timers : List Timer) → map timer_key (in_turn timers) ≡ in_order name_cmp (map timer_key timers)
unfolding in_turn
map-in_turn [] = refl
map-in_turn (t ∷ timers) = map-with_timer t (in_turn timers) ∙ ap (put_key name_cmp (timer_key t)) (map-in_turn timers)

pub rises-in_turn : (timers : List Timer) → Rises name_cmp (map timer_key (in_turn timers))
rises-in_turn timers = subst (Rises name_cmp) (sym (map-in_turn timers)) (rises-in_order names_order (map timer_key timers))

-- where its id isn't set, a timer is fresh among the others in turn
pub fresh : (t : Timer) (timers : List Timer) → is_set t.id timers ≡ false → IsFresh t (in_turn timers)
fresh t timers e =
    record { apart = ap (is_among name_cmp (timer_key t)) (map-in_turn timers) ∙ among-in_order names_order (timer_key t) (map timer_key timers) ∙ not_set t timers e }

-- a fresh timer ties with none, and is fresh among the rest
pub untied : (t u : Timer) (timers : List Timer) → IsFresh t (u ∷ timers) → timer_cmp t u ≡ Equal → ⊥
untied t u timers f e =
    let key : timer_key t ≡ timer_key u = names_order.exact (timer_key t) (timer_key u) e in
    false≢true (sym f.apart ∙ among-cons_same names_order (timer_key t) (timer_key u) (map timer_key timers) (sym key))

pub fresh_rest : (t u : Timer) (timers : List Timer) → IsFresh t (u ∷ timers) → IsFresh t timers
fresh_rest t u timers f = record { apart = rest (is_same name_cmp (timer_key u) (timer_key t)) f.apart }
  where
    rest : (b : Bool) → (b || is_among name_cmp (timer_key t) (map timer_key timers)) ≡ false → is_among name_cmp (timer_key t) (map timer_key timers) ≡ false
    rest true bad = absurd cc
    rest false none = none

swapped : (a b c : Bool) → (a || (b || c)) ≡ (b || (a || c))
swapped true true c = refl
swapped true false c = refl
swapped false b c = refl

-- a test of some timer, once a fresh one is set
pub any-with_timer : (p : Timer → Bool) (t : Timer) (timers : List Timer) → IsFresh t timers → list_any p (with_timer t timers) ≡ (p t || list_any p timers)
any-with_timer p t [] f = refl
any-with_timer p t (u ∷ timers) f = elim (compared (timer_cmp t u)) [
  | Below l ↦ rw l
  | Tied e ↦ absurd (untied t u timers f e)
  | Above g ↦ rw g (ap (λ b. p u || b) (any-with_timer p t timers (fresh_rest t u timers f)) ∙ swapped (p u) (p t) (list_any p timers))
]

pub length-with_timer : (t : Timer) (timers : List Timer) → IsFresh t timers → length (with_timer t timers) ≡ suc (length timers)
length-with_timer t [] f = refl
length-with_timer t (u ∷ timers) f = elim (compared (timer_cmp t u)) [
  | Below l ↦ rw l
  | Tied e ↦ absurd (untied t u timers f e)
  | Above g ↦ rw g (ap suc (length-with_timer t timers (fresh_rest t u timers f)))
]

-- the first id is set by none of the others
pub apart_first : (t : Timer) (timers : List Timer) → IsTrue (have_distinct_ids (t ∷ timers)) → is_set t.id timers ≡ false
apart_first t timers d = opposite (is_set t.id timers) (both (not (is_set t.id timers)) (have_distinct_ids timers) d).0
  where
    opposite : (b : Bool) → not b ≡ true → b ≡ false
    opposite true bad = absurd cc
    opposite false e = refl

pub distinct_rest : (t : Timer) (timers : List Timer) → IsTrue (have_distinct_ids (t ∷ timers)) → IsTrue (have_distinct_ids timers)
distinct_rest t timers d = (both (not (is_set t.id timers)) (have_distinct_ids timers) d).1

pub any-in_turn : (p : Timer → Bool) (timers : List Timer) → IsTrue (have_distinct_ids timers) → list_any p (in_turn timers) ≡ list_any p timers
unfolding in_turn
any-in_turn p [] d = refl
any-in_turn p (t ∷ timers) d =
    any-with_timer p t (in_turn timers) (fresh t timers (apart_first t timers d)) ∙ ap (λ b. p t || b) (any-in_turn p timers (distinct_rest t timers d))

pub length-in_turn : (timers : List Timer) → IsTrue (have_distinct_ids timers) → length (in_turn timers) ≡ length timers
unfolding in_turn
length-in_turn [] d = refl
length-in_turn (t ∷ timers) d =
    length-with_timer t (in_turn timers) (fresh t timers (apart_first t timers d)) ∙ ap suc (length-in_turn timers (distinct_rest t timers d))

neither : (a b : Bool) → (a || b) ≡ false → (a ≡ false) × (b ≡ false)
neither true b e = absurd cc
neither false b e = (refl, e)

-- ids stay distinct once a timer of another is set
pub distinct-with_timer : (t : Timer) (timers : List Timer) → IsFresh t timers → is_set t.id timers ≡ false → IsTrue (have_distinct_ids timers) → IsTrue (have_distinct_ids (with_timer t timers))
distinct-with_timer t [] f e d = refl
distinct-with_timer t (u ∷ timers) f e d = elim (compared (timer_cmp t u)) [
  | Below l ↦ rw (l, e) d
  | Tied q ↦ absurd (untied t u timers f q)
  | Above g ↦ (
      let parts = neither (has_id t.id u) (is_set t.id timers) e in
      let other : has_id u.id t ≡ false = same_back names_order (id_key t.id) (id_key u.id) ∙ parts.0 in
      let rest = fresh_rest t u timers f in
      let none : is_set u.id (with_timer t timers) ≡ false = any-with_timer (has_id u.id) t timers rest ∙ rw (other, apart_first u timers d) refl in
      rw (g, none) (distinct-with_timer t timers rest parts.1 (distinct_rest u timers d)))
]

pub distinct-in_turn : (timers : List Timer) → IsTrue (have_distinct_ids timers) → IsTrue (have_distinct_ids (in_turn timers))
unfolding in_turn
distinct-in_turn [] d = refl
distinct-in_turn (t ∷ timers) d =
    let apart = apart_first t timers d in
    let rest = distinct_rest t timers d in
    distinct-with_timer t (in_turn timers) (fresh t timers apart) (any-in_turn (has_id t.id) timers rest ∙ apart) (distinct-in_turn timers rest)

-- the first timer, once one more is set
pub least-with_timer : (t : Timer) (timers : List Timer) → least_of (with_timer t timers) ≡ Some (earlier (least_of timers) t)
least-with_timer t [] = refl
least-with_timer t (u ∷ timers) = elim (compared (timer_cmp t u)) [
  | Below l ↦ rw (l, turned names_order (timer_key t) (timer_key u) Less l)
  | Tied e ↦ rw (e, turned names_order (timer_key t) (timer_key u) Equal e)
  | Above g ↦ rw (g, turned names_order (timer_key t) (timer_key u) Greater g)
]
