-- A reply as C is given it.
use Rattle.std.specs.Prelude.{ℕ, ◌++◌, List, drop, length, map, replicate, Option, Some, None}
use Rattle.lg_packet.specs.Meaning.Spelling.{spelling}
use Rattle.lg_timers.specs.declared.timer.Timer.{Timer}
use Rattle.lg_timers.specs.declared.timer.TimerId.{TimerId}
use Rattle.lg_timers.specs.declared.timer.TimerId.TheVariants.{RoundEnd, Suspicion, Direct, RelayNack, RelayEnd}
use Rattle.lg_timers.specs.declared.timer.TimerId.TheVariants.{RoundStart, Forget, Gossip}
use Rattle.lg_detector.specs.declared.reply.Answer.{Answer}
use Rattle.lg_detector.specs.declared.reply.Answer.TheVariants.{Status, Health}
use Rattle.lg_detector.specs.declared.reply.Outgoing.{Outgoing}
use Rattle.lg_detector.specs.declared.reply.Reply.{Reply}
use Rattle.lg_c_values.specs.declared.name.LgName.{LgName}
use Rattle.lg_c_values.specs.Meaning.Addresses.{c_addr, no_c_addr}
use Rattle.lg_c_values.specs.Meaning.Names.{c_name, no_c_name}
use Rattle.lg_c_values.specs.Meaning.Records.{c_record, no_c_record}
use Rattle.lg_c.specs.declared.reply.LgAnswer.{LgAnswer}
use Rattle.lg_c.specs.declared.reply.LgFired.{LgFired}
use Rattle.lg_c.specs.declared.reply.LgReply.{LgReply}
use Rattle.lg_c.specs.declared.reply.LgSend.{LgSend}

-- the most bytes of a datagram
abbrev pub most_send_bytes : ℕ
most_send_bytes = 1207

-- a row written over the first places of another
abbrev pub over : {A : Type 0} → List A → List A → List A
over row old = row ++ drop (length row) old

-- a packet to be sent: where it goes, and the bytes that spell it, and then zeros
abbrev pub c_send : Outgoing → LgSend
c_send o =
    let bytes = spelling o.packet in
    record { bytes = over bytes (replicate most_send_bytes 0); length = length bytes; to = c_addr o.to }

-- no packet
abbrev pub no_c_send : LgSend
no_c_send = record { bytes = replicate most_send_bytes 0; length = 0; to = no_c_addr }

-- a timer, and the relay or the member that it is about
abbrev pub fired_as : ℕ → ℕ → LgName → LgFired
fired_as kind number name = record { kind = kind; number = number; name = name }

abbrev pub c_id : TimerId → LgFired
c_id RoundEnd = fired_as 1 0 no_c_name
c_id (Suspicion member) = fired_as 2 0 (c_name member)
c_id Direct = fired_as 3 0 no_c_name
c_id (RelayNack relay) = fired_as 4 relay no_c_name
c_id (RelayEnd relay) = fired_as 5 relay no_c_name
c_id RoundStart = fired_as 6 0 no_c_name
c_id (Forget member) = fired_as 7 0 (c_name member)
c_id Gossip = fired_as 8 0 no_c_name

-- the timer that fired, if one did
abbrev pub c_fired : Option Timer → LgFired
c_fired None = fired_as 0 0 no_c_name
c_fired (Some timer) = c_id timer.id

-- an answer that tells no record and no health
abbrev pub bare_answer : ℕ → LgAnswer
bare_answer kind = record { kind = kind; incarnation = 0; score = 0; members = 0; subject = no_c_record }

abbrev pub c_told : Answer → LgAnswer
c_told (Status None) = bare_answer 1
c_told (Status (Some r)) = record (bare_answer 2) { subject = c_record r }
c_told (Health score number members) =
    record (bare_answer 3) { incarnation = number; score = score; members = members }

-- the answer, if there is one
abbrev pub c_answer : Option Answer → LgAnswer
c_answer None = bare_answer 0
c_answer (Some answer) = c_told answer

-- the reply that C is given, over what the struct held
abbrev pub c_reply : Reply → LgReply → LgReply
c_reply r old =
    record {
      next = r.next;
      ousted = r.ousted;
      sends_count = length r.sends.items;
      changed_count = length r.changed.items;
      forgotten_count = length r.forgotten.items;
      fired = c_fired r.fired;
      answer = c_answer r.answer;
      sends = over (map c_send r.sends.items) old.sends;
      changed = over (map c_record r.changed.items) old.changed;
      forgotten = over (map c_name r.forgotten.items) old.forgotten;
    }
