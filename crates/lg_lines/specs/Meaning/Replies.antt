-- The reply of a detector to an event, as lines of text.
use Rattle.std.specs.Prelude.{ℕ, ◌+◌, Bool, List, [], ◌∷◌, ◌++◌}
use Rattle.std.specs.Prelude.{Option, Some, None, codes, decimal, if◌then◌else◌}
use Rattle.std.specs.List.{flat_map}
use Rattle.hex.specs.Hex.{encode_lower}
use Rattle.lg_timers.specs.declared.timer.Timer.{Timer}
use Rattle.lg_timers.specs.declared.timer.TimerId.{TimerId}
use Rattle.lg_timers.specs.declared.timer.TimerId.TheVariants.{RoundEnd, Suspicion, Direct}
use Rattle.lg_timers.specs.declared.timer.TimerId.TheVariants.{RelayNack, RelayEnd, RoundStart, Forget, Gossip}
use Rattle.lg_packet.specs.Meaning.Spelling.{spelling}
use Rattle.lg_packet.specs.declared.packet.Packet.{Packet}
use Rattle.lg_detector.specs.declared.event.Event.{Event}
use Rattle.lg_detector.specs.declared.event.Event.TheVariants.{Open, Tick, Heard, Ask, Health, Pull, Leave}
use Rattle.lg_detector.specs.declared.reply.Answer.{Answer}
use Rattle.lg_detector.specs.declared.reply.Answer.TheVariants.{Status as OfStatus, Health as OfHealth}
use Rattle.lg_detector.specs.declared.reply.Outgoing.{Outgoing}
use Rattle.lg_detector.specs.declared.reply.Reply.{Reply}
use Rattle.lg_text.specs.Meaning.Lines.{newline}
use Rattle.lg_text.specs.Meaning.Addresses.{addr_text}
use Rattle.lg_lines.specs.Meaning.Records.{blank, record_text, table_text}

-- the word for the kind of a timer
abbrev pub kind_text : TimerId → List ℕ
kind_text RoundEnd = codes "round-end"
kind_text (Suspicion member) = codes "suspicion"
kind_text Direct = codes "direct"
kind_text (RelayNack relay) = codes "relay-nack"
kind_text (RelayEnd relay) = codes "relay-end"
kind_text RoundStart = codes "round-start"
kind_text (Forget member) = codes "forget"
kind_text Gossip = codes "gossip"

-- the member, or the number of the relay, that a timer is about, if it is about one
abbrev pub subject_text : TimerId → List ℕ
subject_text RoundEnd = []
subject_text (Suspicion member) = blank ++ member
subject_text Direct = []
subject_text (RelayNack relay) = blank ++ decimal relay
subject_text (RelayEnd relay) = blank ++ decimal relay
subject_text RoundStart = []
subject_text (Forget member) = blank ++ member
subject_text Gossip = []

-- the line of a tick: the timer that it fired, or that it fired none
abbrev pub tick_text : Option Timer → List ℕ
tick_text None = codes "idle" ++ newline
tick_text (Some timer) = codes "fired " ++ kind_text timer.id ++ subject_text timer.id ++ newline

-- the line of a tick; other events fire nothing, and have no such line
abbrev pub fired_text : Event → Option Timer → List ℕ
fired_text (Open now config) fired = []
fired_text (Tick now words) fired = tick_text fired
fired_text (Heard now source packet) fired = []
fired_text (Ask now name) fired = []
fired_text (Health now) fired = []
fired_text (Pull now peer) fired = []
fired_text (Leave now words) fired = []

-- the health score, this member's incarnation, and how many members aren't gone
abbrev pub health_text : ℕ → ℕ → ℕ → List ℕ
health_text score number members =
    codes "score " ++ decimal score ++ codes " number " ++ decimal number ++ codes " members " ++ decimal members

-- the record of a name, or that the name isn't known; or the health
abbrev pub told_text : Answer → List ℕ
told_text (OfStatus None) = codes "none"
told_text (OfStatus (Some c)) = record_text c
told_text (OfHealth score number members) = health_text score number members

-- the line of an answer, if there is one
abbrev pub answer_line : Option Answer → List ℕ
answer_line None = []
answer_line (Some answer) = codes "answer " ++ told_text answer ++ newline

-- a packet in lower-case hex
abbrev pub packet_text : Packet → List ℕ
packet_text packet = encode_lower (spelling packet)

-- the line of packet number k, which is sent: where it goes, and its bytes
abbrev pub send_line : ℕ → Outgoing → List ℕ
send_line k s = codes "send " ++ decimal k ++ blank ++ addr_text s.to ++ blank ++ packet_text s.packet ++ newline

-- the lines of packets that are sent, numbered from k on
abbrev pub sends_text : ℕ → List Outgoing → List ℕ
sends_text k [] = []
sends_text k (s ∷ ss) = send_line k s ++ sends_text (k + 1) ss

-- the line of a name that was forgotten, and those of several
abbrev pub forgot_line : List ℕ → List ℕ
forgot_line name = codes "forgot " ++ name ++ newline

unfoldable pub forgotten_text : List (List ℕ) → List ℕ
forgotten_text names = flat_map forgot_line names

-- the line `ousted`, if the member is ousted
abbrev pub ousted_text : Bool → List ℕ
ousted_text ousted = if ousted then codes "ousted" ++ newline else []

-- the line of the next deadline
abbrev pub next_text : ℕ → List ℕ
next_text next = codes "next " ++ decimal next ++ newline

-- The lines of the reply to an event. The first packet that is sent has the number k.
unfoldable pub reply_text : Event → ℕ → Reply → List ℕ
reply_text event k reply =
    fired_text event reply.fired ++ answer_line reply.answer ++ sends_text k reply.sends.items
    ++ table_text reply.changed.items ++ forgotten_text reply.forgotten.items
    ++ ousted_text reply.ousted ++ next_text reply.next
