-- What the command `answer` writes for an input, given its lines and the events before each line.
use Rattle.std.specs.Prelude.{ℕ, Bool, List, [], ◌∷◌, ◌++◌, Option}
use Rattle.std.specs.Prelude.{Some, None, Result, Ok, Err, if◌then◌else◌}
use Rattle.std.specs.List.{flat_map, filter_map, list_any}
use Rattle.std.specs.Result.{is_err}
use Rattle.hex.specs.Hex.{encode_lower}
use Rattle.lg_packet.specs.Meaning.Spelling.{spelling}
use Rattle.lg_packet.specs.declared.packet.Packet.{Packet}
use Rattle.lg_detector.specs.Meaning.Step.{reply_after}
use Rattle.lg_detector.specs.declared.event.Event.{Event}
use Rattle.lg_detector.specs.declared.event.Event.TheVariants.{Open, Heard}
use Rattle.lg_detector.specs.declared.reply.Outgoing.{Outgoing}
use Rattle.lg_timing.specs.Meaning.Config.{defaults}
use Rattle.lg_script.specs.Meaning.Values.{local}
use Rattle.lg_text.specs.Meaning.Lines.{lines_of, newline}
use Rattle.lg_text.specs.declared.end.RunEnd.{RunEnd}
use Rattle.lg_text.specs.declared.end.RunEnd.TheVariants.{Done, Faulty}
use Rattle.lg_commands.specs.Meaning.Spelled.{fault_text, packet_in}
use Rattle.lg_commands.specs.declared.line.LineFault.{LineFault}

-- the opening of the detector, with the defaults and at 127.0.0.1:7000
abbrev pub opening : List ℕ → Event
opening name = Open 0 (defaults name (local 7000))

-- a packet is heard from 127.0.0.1:1
abbrev pub heard_event : Packet → Event
heard_event packet = Heard 0 (local 1) packet

-- the event of a line that spells a packet: the packet is heard
abbrev pub event_of : Result Packet LineFault → Option Event
event_of (Ok packet) = Some (heard_event packet)
event_of (Err fault) = None

-- the events of some lines: the opening, and the event of each line that spells a packet
unfoldable pub events_of_lines : List ℕ → List (List ℕ) → List Event
events_of_lines name lines = opening name ∷ filter_map (λ line. event_of (packet_in line)) lines

-- a packet that is sent, as a line of lower-case hex
abbrev pub sent_text : Packet → List ℕ
sent_text packet = encode_lower (spelling packet) ++ newline

abbrev pub sent_line : Outgoing → List ℕ
sent_line outgoing = sent_text outgoing.packet

-- a line for each packet that the detector sends after the earlier events, or one for the fault
abbrev pub line_reply : List Event → Result Packet LineFault → List ℕ
line_reply earlier (Ok packet) = flat_map sent_line (reply_after earlier (heard_event packet)).sends.items
line_reply earlier (Err fault) = fault_text fault ++ newline

-- what a line gives after the earlier events
abbrev pub line_answer : List Event → List ℕ → List ℕ
line_answer earlier line = line_reply earlier (packet_in line)

-- what some lines give, each after the events of the lines before it
abbrev pub answers_from : List ℕ → List (List ℕ) → List (List ℕ) → List ℕ
answers_from name before [] = []
answers_from name before (line ∷ lines) =
    line_answer (events_of_lines name before) line ++ answers_from name (before ++ line ∷ []) lines

-- what is written for an input
unfoldable pub answer_text : List ℕ → List ℕ → List ℕ
answer_text name input = answers_from name [] (lines_of input)

-- whether a line spells no packet
abbrev pub is_faulty : List ℕ → Bool
is_faulty line = is_err (packet_in line)

-- how the run ends: faulty exactly if some line is
unfoldable pub answer_end : List ℕ → RunEnd
answer_end input = if list_any is_faulty (lines_of input) then Faulty else Done
