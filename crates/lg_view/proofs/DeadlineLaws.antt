-- The least deadline after a list that begins with an opening.
use Rattle.std.proofs.Common.{◌≡◌, ℕ, true, List, [], ◌∷◌, Option, Some, None, ap, sym}
use Rattle.std.specs.Prelude.{is_some}
use mathlib.Core.List.{IsPrefix}
use Rattle.lg_detector.specs.declared.event.Event.{Event}
use Rattle.lg_detector.specs.Meaning.Step.{begins_open, deadline_after}
use Rattle.lg_detector.specs.Meaning.Timing.{or_zero}
use Rattle.lg_detector.proofs.Deadlines.{deadline_is_begun}

-- a list that goes on from one that begins with an opening begins with it too
opens_longer : (f g : List Event) → begins_open f ≡ true → IsPrefix f g → begins_open g ≡ true
opens_longer [] g opens p = absurd cc
opens_longer (x ∷ f) [] opens p = absurd (cc (p.1))
opens_longer (x ∷ f) (y ∷ g) opens p = cc (p.1, opens)

is_that : (o : Option ℕ) (n : ℕ) → is_some o ≡ true → n ≡ or_zero o → o ≡ Some n
is_that None n is e = absurd cc
is_that (Some m) n is e = ap Some (sym e)

-- so 0 doesn't stand for none there
pub known_deadline : (f g : List Event) (n : ℕ) → begins_open f ≡ true → IsPrefix f g → n ≡ or_zero (deadline_after g) → deadline_after g ≡ Some n
known_deadline f g n opens p e = is_that (deadline_after g) n (deadline_is_begun g (opens_longer f g opens p)) e
