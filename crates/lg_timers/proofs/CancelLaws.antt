-- Timers in the order in which they fire, once some are taken out.
use Rattle.std.proofs.Common.{◌≡◌, ℕ, suc, ◌≤◌, ◌<◌, Bool, true, false, not, ◌||◌, ltb, leb, IsTrue, List, [], ◌∷◌, length, map, Some, None, refl, sym, ◌∙◌, ap, subst, inl, inr, arith}
use Rattle.std.specs.List.{list_any}
use Rattle.std.specs.Prelude.{filter}
use Rattle.std.proofs.lemmas.Bool.{cases_Bool, lt-ltb, le-ltb, ltb-true, ltb-false, lt-leb, le-leb}
use Rattle.lg_rules.specs.Meaning.Rows.{name_cmp, Rises, AreAbove}
use Rattle.lg_rules.proofs.Cases.{Below, Tied, Above, compared}
use Rattle.lg_rules.proofs.KeyOrder.{names_order}
use Rattle.lg_rules.proofs.Rises.{above_lower}
use Rattle.lg_timers.specs.declared.timer.Timer.{Timer}
use Rattle.lg_timers.specs.Meaning.Timers.{timer_key, timer_cmp, has_id, is_due, have_distinct_ids, with_timer, in_turn, least_of, due_of}
use Rattle.lg_timers.proofs.KeyLaws.{less_deadline}
use Rattle.lg_timers.proofs.TurnLaws.{IsFresh, untied, fresh, fresh_rest, rises-in_turn, apart_first, distinct_rest}

pub above_filter : (p : Timer → Bool) (k : List ℕ) (timers : List Timer) → AreAbove name_cmp k (map timer_key timers) → AreAbove name_cmp k (map timer_key (filter p timers))
above_filter p k [] a = tt
above_filter p k (t ∷ timers) a = elim (cases_Bool (p t)) [
  | inl e ↦ rw e (a.0, above_filter p k timers a.1)
  | inr e ↦ rw e (above_filter p k timers a.1)
]

-- a timer below all the others is set first
with_first : (t : Timer) (timers : List Timer) → AreAbove name_cmp (timer_key t) (map timer_key timers) → with_timer t timers ≡ t ∷ timers
with_first t [] a = refl
with_first t (u ∷ timers) a = rw a.0

-- a fresh timer that passes is set among those that pass
pub filter-with_passing : (p : Timer → Bool) (t : Timer) (timers : List Timer) → p t ≡ true → Rises name_cmp (map timer_key timers) → IsFresh t timers → filter p (with_timer t timers) ≡ with_timer t (filter p timers)
filter-with_passing p t [] e r f = rw e
filter-with_passing p t (u ∷ timers) e r f = elim (compared (timer_cmp t u)) [
  | Below l ↦ (
      let above : AreAbove name_cmp (timer_key t) (map timer_key (u ∷ timers)) = (l, above_lower names_order (timer_key t) (timer_key u) (map timer_key timers) l r.0) in
      let front : filter p (with_timer t (u ∷ timers)) ≡ t ∷ filter p (u ∷ timers) = rw (l, e) refl in
      front ∙ sym (with_first t (filter p (u ∷ timers)) (above_filter p (timer_key t) (u ∷ timers) above)))
  | Tied q ↦ absurd (untied t u timers f q)
  | Above g ↦ (
      let rest = filter-with_passing p t timers e r.1 (fresh_rest t u timers f) in
      elim (cases_Bool (p u)) [
        | inl kept ↦ rw (g, kept, rest, g) refl
        | inr gone ↦ rw (g, gone) rest
      ])
]

-- a fresh timer that doesn't pass is as if it weren't set
pub filter-with_failing : (p : Timer → Bool) (t : Timer) (timers : List Timer) → p t ≡ false → IsFresh t timers → filter p (with_timer t timers) ≡ filter p timers
filter-with_failing p t [] e f = rw e
filter-with_failing p t (u ∷ timers) e f = elim (compared (timer_cmp t u)) [
  | Below l ↦ rw (l, e) refl
  | Tied q ↦ absurd (untied t u timers f q)
  | Above g ↦ (
      let rest = filter-with_failing p t timers e (fresh_rest t u timers f) in
      elim (cases_Bool (p u)) [
        | inl kept ↦ rw (g, kept) (ap (λ ts. u ∷ ts) rest)
        | inr gone ↦ rw (g, gone) rest
      ])
]

-- some timers in turn, those that pass
pub filter-in_turn : (p : Timer → Bool) (timers : List Timer) → IsTrue (have_distinct_ids timers) → filter p (in_turn timers) ≡ in_turn (filter p timers)
unfolding in_turn
filter-in_turn p [] d = refl
filter-in_turn p (t ∷ timers) d =
    let among = fresh t timers (apart_first t timers d) in
    let rest = filter-in_turn p timers (distinct_rest t timers d) in
    elim (cases_Bool (p t)) [
      | inl e ↦ filter-with_passing p t (in_turn timers) e (rises-in_turn timers) among ∙ ap (with_timer t) rest ∙ sym (kept e)
      | inr e ↦ filter-with_failing p t (in_turn timers) e among ∙ rest ∙ sym (gone e)
    ]
  where
    kept : p t ≡ true → in_turn (filter p (t ∷ timers)) ≡ with_timer t (in_turn (filter p timers))
    kept e = rw e

    gone : p t ≡ false → in_turn (filter p (t ∷ timers)) ≡ in_turn (filter p timers)
    gone e = rw e

-- what none of the timers passes, none of those that are left does
pub none_left : (p q : Timer → Bool) (timers : List Timer) → list_any q timers ≡ false → list_any q (filter p timers) ≡ false
none_left p q [] e = refl
none_left p q (t ∷ timers) e = elim (cases_Bool (p t)) [
  | inl kept ↦ rw kept (split (q t) e (none_left p q timers (after (q t) e)))
  | inr gone ↦ rw gone (none_left p q timers (after (q t) e))
]
  where
    after : (b : Bool) → (b || list_any q timers) ≡ false → list_any q timers ≡ false
    after true bad = absurd cc
    after false none = none

    split : (b : Bool) → (b || list_any q timers) ≡ false → list_any q (filter p timers) ≡ false → (b || list_any q (filter p timers)) ≡ false
    split true bad rest = absurd cc
    split false none rest = rest

pub distinct-filter : (p : Timer → Bool) (timers : List Timer) → IsTrue (have_distinct_ids timers) → IsTrue (have_distinct_ids (filter p timers))
distinct-filter p [] d = refl
distinct-filter p (t ∷ timers) d =
    let rest = distinct-filter p timers (distinct_rest t timers d) in
    elim (cases_Bool (p t)) [
      | inl kept ↦ rw (kept, none_left p (has_id t.id) timers (apart_first t timers d)) rest
      | inr gone ↦ rw gone rest
    ]

pub fewer : (p : Timer → Bool) (timers : List Timer) → length (filter p timers) ≤ length timers
fewer p [] = omega arith
fewer p (t ∷ timers) = elim (cases_Bool (p t)) [
  | inl kept ↦ rw kept (omega (arith, fewer p timers))
  | inr gone ↦ rw gone (omega (arith, fewer p timers))
]

-- fewer are left exactly where one was taken out
pub fewer_left : (p : Timer → Bool) (timers : List Timer) → ltb (length (filter (λ t. not (p t)) timers)) (length timers) ≡ list_any p timers
fewer_left p [] = refl
fewer_left p (t ∷ timers) =
    let left = filter (λ u. not (p u)) timers in
    elim (cases_Bool (p t)) [
      | inl gone ↦ rw gone (lt-ltb (length left) (suc (length timers)) (omega (arith, fewer (λ u. not (p u)) timers)))
      | inr kept ↦ rw kept (as_before (list_any p timers) (fewer_left p timers))
    ]
  where
    as_before : (b : Bool) → ltb (length (filter (λ u. not (p u)) timers)) (length timers) ≡ b → ltb (suc (length (filter (λ u. not (p u)) timers))) (suc (length timers)) ≡ b
    as_before true e = lt-ltb (suc (length (filter (λ u. not (p u)) timers))) (suc (length timers)) (omega (arith, ltb-true (length (filter (λ u. not (p u)) timers)) (length timers) e))
    as_before false e = le-ltb (suc (length (filter (λ u. not (p u)) timers))) (suc (length timers)) (omega (arith, ltb-false (length (filter (λ u. not (p u)) timers)) (length timers) e))

-- where the first one isn't due, none is
none_due : (now : ℕ) (t : Timer) (timers : List Timer) → AreAbove name_cmp (timer_key t) (map timer_key timers) → now < t.deadline → filter (is_due now) timers ≡ []
none_due now t [] a late = refl
none_due now t (u ∷ timers) a late =
    let later : leb u.deadline now ≡ false = lt-leb u.deadline now (omega (arith, less_deadline t u a.0)) in
    rw later (none_due now t timers a.1 late)

-- the first one that is due is the first one, if it is due
pub due-first : (now : ℕ) (t : Timer) (timers : List Timer) → least_of timers ≡ Some t → t.deadline ≤ now → due_of now timers ≡ Some t
due-first now t [] e due = absurd cc
due-first now t (u ∷ timers) e due =
    let same : t ≡ u = cc in
    let is : leb u.deadline now ≡ true = le-leb u.deadline now (subst (λ (x : Timer). x.deadline ≤ now) same due) in
    rw is e

pub due-none : (now : ℕ) (t : Timer) (timers : List Timer) → Rises name_cmp (map timer_key timers) → least_of timers ≡ Some t → now < t.deadline → due_of now timers ≡ None
due-none now t [] r e late = refl
due-none now t (u ∷ timers) r e late =
    let same : t ≡ u = cc in
    let later : now < u.deadline = subst (λ (x : Timer). now < x.deadline) same late in
    rw (lt-leb u.deadline now later, none_due now u timers r.0 later) refl

pub due-empty : (now : ℕ) (timers : List Timer) → least_of timers ≡ None → due_of now timers ≡ None
due-empty now [] e = refl
due-empty now (t ∷ timers) e = absurd cc
