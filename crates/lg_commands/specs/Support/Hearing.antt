-- What one line does in a run over lines.
use Rattle.std.specs.Prelude.{ℕ, IsTrue, List, [], ◌∷◌, ◌++◌, Result, Ok, Err, if◌then◌else◌}
use Rattle.lg_packet.specs.declared.packet.Packet.{Packet}
use Rattle.lg_detector.specs.Support.Step.{accepts_of}
use Rattle.lg_detector.specs.Support.State.{State}
use Rattle.lg_detector.specs.declared.event.Event.{Event}
use Rattle.lg_commands.specs.Meaning.Answering.{heard_event, is_faulty}
use Rattle.lg_text.specs.declared.end.RunEnd.{RunEnd}
use Rattle.lg_text.specs.declared.end.RunEnd.TheVariants.{Done, Faulty}
use Rattle.lg_commands.specs.declared.line.LineFault.{LineFault}

-- the earlier events, and the event of a line, if it spells a packet
abbrev pub with_heard : List Event → Result Packet LineFault → List Event
with_heard earlier (Ok packet) = earlier ++ heard_event packet ∷ []
with_heard earlier (Err fault) = earlier

-- The detector can hear any packet.
pub record AcceptsHeard (s : State) : Type 0 where
  pub accepts : (packet : Packet) → IsTrue (accepts_of s (heard_event packet))

-- how a run over one line ends
abbrev pub line_end : List ℕ → RunEnd
line_end line = if is_faulty line then Faulty else Done
