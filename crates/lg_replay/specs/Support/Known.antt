-- What a replay keeps of a life is that life.
use Rattle.std.specs.Prelude.{◌≡◌, ℕ, true, false, Bool, ◌&&◌, not}
use Rattle.std.specs.Prelude.{if◌then◌else◌, List, [], Option, Some, None}
use Rattle.lg_detector.specs.Meaning.Step.{is_accepted}
use Rattle.lg_detector.specs.Support.Step.{state_after}
use Rattle.lg_detector.specs.declared.event.Event.{Event}
use Rattle.lg_detector.specs.declared.reply.Reply.{Reply}
use Rattle.lg_replay.specs.Meaning.Lives.{Life}
use Rattle.lg_replay.specs.Meaning.Words.{unchecked_line}
use Rattle.lg_replay.specs.declared.known.Known.{Known}

-- the detector is the one behind these events
pub record IsBehind (k : Known) (f : List Event) : Type 0 where
  pub known : k.is_known ≡ true
  pub detector : k.detector ≡ state_after f
  pub accepted : is_accepted f ≡ true

abbrev pub HoldsPast : Known → Option (List Event) → Type 0
HoldsPast k None = k.is_known ≡ false
HoldsPast k (Some f) = IsBehind k f

pub record IsKnown (k : Known) (life : Life) : Type 0 where
  pub past : HoldsPast k life.past
  pub sent : k.sent ≡ life.sent

-- whether there is a due reply, and the one that was written if there is
abbrev pub IsDue : Bool → Reply → Option Reply → Type 0
IsDue true reply due = due ≡ Some reply
IsDue false reply due = due ≡ None

-- the line before an entry from which on nothing can be checked, if it is one
abbrev pub lost_text : ℕ → (was_known is_due : Bool) → List ℕ
lost_text number was_known is_due = if was_known && not is_due then unchecked_line number else []

-- the line before the entries of a file of whose past some is missing, if it is
abbrev pub unknown_text : ℕ → Bool → List ℕ
unknown_text first is_known = if is_known then [] else unchecked_line first
