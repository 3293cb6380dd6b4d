-- Histories whose first entries were cut off: what stands for those entries, and which such histories are legal.
use Rattle.std.specs.Prelude.{◌≡◌, ℕ, ◌<◌, ◌==◌, List, [], ◌∷◌, ◌++◌, Option, Some, None, get_or, length}
use Rattle.std.specs.List.{count_by, sum_by}
use Rattle.lg_detector.specs.declared.event.Event.{Event}
use Rattle.lg_detector.specs.Support.State.{State}
use Rattle.lg_detector.specs.Support.Step.{reply_state, step_state}
use Rattle.lg_detector.specs.Support.Summary.{IsSummary}
use Rattle.lg_history.specs.Meaning.History.{Entry, events, IsLegal}

-- how many of some entries a seat made
abbrev pub made_by : ℕ → List Entry → ℕ
made_by seat h = count_by (λ x. x.seat == seat) h

-- the count that a row of counts has for a seat
abbrev pub of_seat : List ℕ → ℕ → ℕ
of_seat counts seat = get_or counts seat 0

-- What stands for the entries that were cut off, by their events: a summary of these, or nothing if there are none.
abbrev pub StandsFor : Option State → List Event → Type 0
StandsFor None f = f ≡ []
StandsFor (Some s) f = IsSummary s f × (0 < length f)

-- Entries that are left after others were cut off. Those had the events of `past`, and `cut` says how many of them
-- each seat made. There are such entries with which the whole history is legal.
pub record IsRest (places : ℕ) (past : List Event) (cut : List ℕ) (h : List Entry) : Type 0 where
  pub gone : List Entry
  pub past_is : events gone ≡ past
  pub legal : IsLegal places (gone ++ h)
  pub counted : (seat : ℕ) → of_seat cut seat ≡ made_by seat gone

-- each reply is the one that follows from the summary through the events before it
abbrev pub AnsweredFrom : State → List Entry → Type 0
AnsweredFrom s [] = Unit {0}
AnsweredFrom s (x ∷ h) = (x.reply ≡ reply_state s x.event) × AnsweredFrom (step_state s x.event) h

-- What is known of the counts of entries that were cut off. If there are any, the opening's seat has 1. No seat above
-- `places` has any. The counts add up to the number of events that were cut off.
pub record AreCut (places : ℕ) (past : List Event) (cut : List ℕ) : Type 0 where
  pub opening : 0 < length past → of_seat cut 0 ≡ 1
  pub none_above : (seat : ℕ) → places < seat → of_seat cut seat ≡ 0
  pub all : sum_by (λ n. n) cut ≡ length past
