-- The rule of a book: what holds of its words and its list of events between any two steps, and what the step that
-- adds an event shows.
use Rattle.std.specs.Prelude.{ℕ, ◌≡◌, ◌==◌, true, List, [], ◌∷◌, ◌++◌, length, MatchBool}
use Rattle.logbook.specs.Pages.{Cell, Step, View, Book, Named}
use Rattle.lg_detector.specs.declared.event.Event.{Event}
use Rattle.lg_detector.specs.Meaning.Step.{is_accepted}

-- The list is accepted, and the first word is its length. A book has two words; the second is never used.
pub record IsKept (cells : List Cell) (list : List Event) : Type 0 where
  pub words : cells ≡ (length list, true) ∷ (0, true) ∷ []
  pub accepted : is_accepted list ≡ true

-- the word of a book that has the length of its list
abbrev pub head_of : Book → Named
head_of b = record { tracked = true; key = 0; book = b }

-- the book that stands for a name at run time, when names don't exist
abbrev pub no_book : Book
no_book = record { number = 0; log_name = 0; cells_name = 0 }

-- If the word was what the step expected, the event was added to all that had been seen, and the list is accepted.
-- Otherwise the step shows nothing.
abbrev pub Adds : Step Event → View Event ℕ → ℕ → View Event ℕ → Type 0
Adds s before found after =
    MatchBool (found == s.old) ((after.0 ≡ before.0 ++ s.ask ∷ []) × (is_accepted after.0 ≡ true)) (Unit {0})
