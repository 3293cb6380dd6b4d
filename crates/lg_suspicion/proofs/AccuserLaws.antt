-- Which accusers count, after one more, and that the deadline is by their set.
use Rattle.std.proofs.Common.{◌≡◌, ℕ, zero, suc, ◌+◌, ◌-◌, ◌≤◌, Bool, true, false, cond, not, ◌&&◌, leb, min}
use Rattle.std.proofs.Common.{List, [], ◌∷◌, length, drop, inl, inr, refl, sym, ◌∙◌, ap, arith}
use Rattle.std.proofs.lemmas.Bool.{cases_Bool, cases_lt, le-leb, leb-true}
use Rattle.std.proofs.lemmas.List.{length-drop}
use Rattle.std.specs.Prelude.{nat_eq}
use Rattle.std.specs.List.{list_any}
use Rattle.std.specs.Cmp.Lexicographic.{pointwise}
use Rattle.lg_rules.specs.Meaning.Past.{oldest}
use Rattle.lg_rules.specs.Meaning.Rows.{name_cmp, is_among, distinct, in_order, put_key}
use Rattle.lg_rules.specs.Support.Slots.{AreNamedOnce}
use Rattle.lg_rules.proofs.KeyOrder.{names_order, names_eq}
use Rattle.lg_rules.proofs.PastLaws.{oldest-all, oldest-more}
use Rattle.lg_rules.proofs.Rises.{among-distinct, among-in_order, rises-in_order, length-put, same_members}
use Rattle.lg_timing.specs.Meaning.TimeoutValue.{TimeoutValue}
use Rattle.lg_timing.specs.Meaning.Timeouts.{timeout_of}
use Rattle.lg_suspicion.specs.Meaning.Accusers.{SuspicionValue, counted_accusers, suspicion_after, would_count, accused}
use Rattle.lg_suspicion.specs.Meaning.Accusers.{deadline_of, deadline_by_set, set_of}

-- different names stay different when the latest are dropped, and are as many in order
once-distinct : (ns : List (List ℕ)) → AreNamedOnce (distinct name_cmp ns)
once-distinct [] = tt
once-distinct (n ∷ ns) = elim (cases_Bool (is_among name_cmp n ns)) [
  | inl among ↦ rw among (once-distinct ns)
  | inr other ↦ rw other (among-distinct names_order n ns ∙ other, once-distinct ns)
]

once-drop : (count : ℕ) (ns : List (List ℕ)) → AreNamedOnce ns → AreNamedOnce (drop count ns)
once-drop zero ns once = once
once-drop (suc count) [] once = once
once-drop (suc count) (n ∷ ns) once = once-drop count ns once.1

length-once : (ns : List (List ℕ)) → AreNamedOnce ns → length (in_order name_cmp ns) ≡ length ns
length-once [] once = refl
length-once (n ∷ ns) once =
    length-put names_order n (in_order name_cmp ns) (among-in_order names_order n ns ∙ once.0)
    ∙ ap suc (length-once ns once.1)

-- as many count as there are different ones, up to one more than the confirmations
pub length-counted : (k : ℕ) (past : List (List ℕ)) → length (counted_accusers k past) ≡ min (k + 1) (length (distinct name_cmp past))
unfolding counted_accusers
length-counted k past =
    let all = distinct name_cmp past in
    length-once (oldest (k + 1) all) (once-drop (length all - (k + 1)) all (once-distinct past))
    ∙ length-drop (length all - (k + 1)) all
    ∙ omega arith

-- while there are few enough, all count
counted-all : (k : ℕ) (past : List (List ℕ)) → length (distinct name_cmp past) ≤ k + 1 → counted_accusers k past ≡ in_order name_cmp (distinct name_cmp past)
unfolding counted_accusers
counted-all k past few = ap (in_order name_cmp) (oldest-all (k + 1) (distinct name_cmp past) few)

among-counted : (k : ℕ) (a : List ℕ) (past : List (List ℕ)) → length (distinct name_cmp past) ≤ k + 1 → is_among name_cmp a (counted_accusers k past) ≡ is_among name_cmp a past
among-counted k a past few =
    ap (is_among name_cmp a) (counted-all k past few) ∙ among-in_order names_order a (distinct name_cmp past) ∙ among-distinct names_order a past

-- the first one counts
pub counted-one : (k : ℕ) (a : List ℕ) → counted_accusers k (a ∷ []) ≡ a ∷ []
counted-one k a = counted-all k (a ∷ []) (omega arith)

-- one who accused before changes nothing
counted-again : (k : ℕ) (a : List ℕ) (past : List (List ℕ)) → is_among name_cmp a past ≡ true → counted_accusers k (a ∷ past) ≡ counted_accusers k past
unfolding counted_accusers
counted-again k a past among = rw among

-- nor does one who is too late
counted-full : (k : ℕ) (a : List ℕ) (past : List (List ℕ)) → is_among name_cmp a past ≡ false → k + 1 ≤ length (distinct name_cmp past) → counted_accusers k (a ∷ past) ≡ counted_accusers k past
unfolding counted_accusers
counted-full k a past other many = rw other (ap (in_order name_cmp) (oldest-more (k + 1) a (distinct name_cmp past) many))

-- another, while there are few enough, counts
counted-more : (k : ℕ) (a : List ℕ) (past : List (List ℕ)) → is_among name_cmp a past ≡ false → length (distinct name_cmp past) ≤ k → counted_accusers k (a ∷ past) ≡ put_key name_cmp a (counted_accusers k past)
counted-more k a past other few =
    let more : distinct name_cmp (a ∷ past) ≡ a ∷ distinct name_cmp past = rw other in
    counted-all k (a ∷ past) (omega (arith, ap length more))
    ∙ ap (in_order name_cmp) more
    ∙ ap (put_key name_cmp a) (sym (counted-all k past (omega arith)))

-- who wouldn't count
not_counted : (k : ℕ) (a : List ℕ) (accusers : List (List ℕ)) → (length accusers ≤ k → is_among name_cmp a accusers ≡ true) → would_count k accusers a ≡ false
not_counted k a accusers there = step (leb (length accusers) k) refl
  where
    step : (b : Bool) → leb (length accusers) k ≡ b → (b && not (is_among name_cmp a accusers)) ≡ false
    step false e = refl
    step true e = rw (there (leb-true (length accusers) k e))

-- the accusers that count, after one more
pub counted-cons : (k : ℕ) (a : List ℕ) (past : List (List ℕ)) → counted_accusers k (a ∷ past) ≡ cond (would_count k (counted_accusers k past) a) (put_key name_cmp a (counted_accusers k past)) (counted_accusers k past)
counted-cons k a past =
    elim (cases_Bool (is_among name_cmp a past)) [
      | inl among ↦ counted-again k a past among ∙ sym (unchanged (not_counted k a (counted_accusers k past) (λ few. among-counted k a past (omega (arith, length-counted k past)) ∙ among)))
      | inr other ↦ elim (cases_lt k (length (distinct name_cmp past))) [
        | inl many ↦ counted-full k a past other (omega arith) ∙ sym (unchanged (not_counted k a (counted_accusers k past) (λ few. absurd (omega (arith, length-counted k past)))))
        | inr few ↦ counted-more k a past other few ∙ sym (changed few other)
      ]
    ]
  where
    unchanged : would_count k (counted_accusers k past) a ≡ false → cond (would_count k (counted_accusers k past) a) (put_key name_cmp a (counted_accusers k past)) (counted_accusers k past) ≡ counted_accusers k past
    unchanged e = rw e

    changed : length (distinct name_cmp past) ≤ k → is_among name_cmp a past ≡ false → cond (would_count k (counted_accusers k past) a) (put_key name_cmp a (counted_accusers k past)) (counted_accusers k past) ≡ put_key name_cmp a (counted_accusers k past)
    changed few other = rw (le-leb (length (counted_accusers k past)) k (omega (arith, length-counted k past)), among-counted k a past (omega arith) ∙ other)

-- a suspicion after one more accuser
pub accused-after : (raised : ℕ) (timeout : TimeoutValue) (a : List ℕ) (past : List (List ℕ)) → accused (suspicion_after raised timeout past) a ≡ suspicion_after raised timeout (a ∷ past)
accused-after raised timeout a past = field (would_count k (counted_accusers k past) a) ∙ ap put (sym (counted-cons k a past))
  where
    k : ℕ
    k = timeout.confirmations

    put : List (List ℕ) → SuspicionValue
    put accusers = record { raised = raised; timeout = timeout; accusers = accusers }

    field : (b : Bool) → cond b (put (put_key name_cmp a (counted_accusers k past))) (put (counted_accusers k past)) ≡ put (cond b (put_key name_cmp a (counted_accusers k past)) (counted_accusers k past))
    field true = refl
    field false = refl

-- as many different names as there are in the set
length-in_order : (ns : List (List ℕ)) → length (in_order name_cmp ns) ≡ length (distinct name_cmp ns)
length-in_order ns =
    let all = distinct name_cmp ns in
    ap length (same_members names_order (in_order name_cmp ns) (in_order name_cmp all) (rises-in_order names_order ns)
    (rises-in_order names_order all)
    (λ n. among-in_order names_order n ns ∙ sym (among-in_order names_order n all ∙ among-distinct names_order n ns)))
    ∙ length-once all (once-distinct ns)

-- the deadline is by the set
pub deadline-after : (raised : ℕ) (timeout : TimeoutValue) (past : List (List ℕ)) → deadline_of (suspicion_after raised timeout past) ≡ deadline_by_set raised timeout (set_of past)
deadline-after raised timeout past =
    let k = timeout.confirmations in
    let confirmed : length (counted_accusers k past) - 1 ≡ min k (length (set_of past) - 1) = omega (arith, length-counted k past, length-in_order past) in
    ap (λ c. raised + timeout_of timeout c) confirmed

-- two pasts with the same accusers have one set
pub set-same : (past other : List (List ℕ)) → ((n : List ℕ) → is_among name_cmp n past ≡ is_among name_cmp n other) → set_of past ≡ set_of other
set-same past other same =
    same_members names_order (set_of past) (set_of other) (rises-in_order names_order past) (rises-in_order names_order other)
    (λ n. among-in_order names_order n past ∙ same n ∙ sym (among-in_order names_order n other))

pub deadline-same : (raised : ℕ) (timeout : TimeoutValue) (past other : List (List ℕ)) → ((n : List ℕ) → is_among name_cmp n past ≡ is_among name_cmp n other) → deadline_of (suspicion_after raised timeout past) ≡ deadline_of (suspicion_after raised timeout other)
deadline-same raised timeout past other same =
    deadline-after raised timeout past ∙ ap (deadline_by_set raised timeout) (set-same past other same) ∙ sym (deadline-after raised timeout other)

-- what `contains` answers
pub contains-among : (a : List ℕ) (ns : List (List ℕ)) → list_any (λ n. pointwise nat_eq n a) ns ≡ is_among name_cmp a ns
contains-among a ns = λ i. list_any (λ n. names_eq n a i) ns
