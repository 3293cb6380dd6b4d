-- The exchange that adds an event keeps the rule of the book.
use Rattle.std.proofs.Common.{◌≡◌, ℕ, ◌+◌, ◌<◌, ◌≤◌, ◌==◌, Bool, true, false, List, [], ◌∷◌, ◌++◌, length, refl, ap, sym, ◌∙◌, subst, arith, inl, length-append, None}
use Rattle.std.proofs.lemmas.List.{append-nil}
use Rattle.std.proofs.lemmas.Bool.Decides.{nat_tests}
use mathlib.Core.List.{IsPrefix}
use prog.Atomic.{either}
use Rattle.logbook.specs.Pages.{Cell, cell, keeps, no_nib, step, Moves, Goes}
use Rattle.lg_detector.specs.declared.event.Event.{Event}
use Rattle.lg_detector.specs.declared.detector.TheConstants.{MAX_EVENTS}
use Rattle.lg_detector.specs.Meaning.Step.{is_accepted}
use Rattle.lg_view.specs.Meaning.Rule.{IsKept, Adds}
use Rattle.lg_view.proofs.Fronts.{prefix_whole}

-- an accepted list isn't too long for a word
pub accepted_short : (f : List Event) → is_accepted f ≡ true → length f ≤ MAX_EVENTS
accepted_short [] a = omega arith
accepted_short (e ∷ f) a = grind (arith, nat_tests)

-- clients of the book see nothing of its list, and an update moves nothing
abbrev pub shown : List Event → List Event
shown list = []

abbrev pub moved : List Event → List Event → ℕ → Type 0
moved xs ys n = Unit {0}

-- the step at a book with this list, after which the word is what the exchange leaves
pub adds_goes : (list seen : List Event) (e : Event) (old : ℕ) → length seen ≡ old → is_accepted (seen ++ e ∷ []) ≡ true → is_accepted list ≡ true → IsPrefix seen list
    → (b : Bool) → (length list == old) ≡ b
    → Goes IsKept shown moved 0 (seen, (no_nib, None)) (λ n. either (n == old) (old + 1) n) (Adds (step 0 old (old + 1) e) (seen, (no_nib, None))) ((length list, true) ∷ (0, true) ∷ []) list
adds_goes list seen e old len may good pre true is =
    let here : length list ≡ old = grind (arith, nat_tests) in
    let same : seen ≡ list = prefix_whole seen list pre (omega arith) in
    let good' : is_accepted (list ++ e ∷ []) ≡ true = ap (λ (w : List Event). is_accepted (w ++ e ∷ [])) (sym same) ∙ may in
    let n : either (length list == old) (old + 1) (length list) ≡ length (list ++ e ∷ []) = rw is (omega (arith, length-append list (e ∷ []))) in (
      keeps,
      e ∷ [],
      None,
      tt,
      record { words = ap (λ (k : ℕ). (k, true) ∷ (0, true) ∷ []) n; accepted = good' },
      inl (refl, refl),
      rw is (ap (λ w. w ++ e ∷ []) (sym same), good'),
    )
adds_goes list seen e old len may good pre false is =
    let all : list ++ [] ≡ list = append-nil list in
    let good' : is_accepted (list ++ []) ≡ true = ap is_accepted all ∙ good in
    let n : either (length list == old) (old + 1) (length list) ≡ length (list ++ []) = rw is (ap length (sym all)) in (
      keeps,
      [],
      None,
      tt,
      record { words = ap (λ (k : ℕ). (k, true) ∷ (0, true) ∷ []) n; accepted = good' },
      inl (refl, refl),
      rw is tt,
    )

-- whatever the list of the book is, the exchange adds the event behind all that was seen, or finds another length
pub adds_moves : (seen : List Event) (e : Event) (old : ℕ) → length seen ≡ old → is_accepted (seen ++ e ∷ []) ≡ true
    → Moves IsKept shown moved 0 (seen, (no_nib, None)) (λ n. either (n == old) (old + 1) n) (Adds (step 0 old (old + 1) e) (seen, (no_nib, None)))
adds_moves seen e old len may cells list kept pre away =
    let P : List Cell → Type 0 = λ c. (0 < length c) × ((cell c 0).1 ≡ true) × Goes IsKept shown moved 0 (seen, (no_nib, None)) (λ n. either (n == old) (old + 1) n) (Adds (step 0 old (old + 1) e) (seen, (no_nib, None))) c list in
    subst P (sym kept.words) (omega arith, refl, adds_goes list seen e old len may kept.accepted pre (length list == old) refl)
