-- What reading an entry from left to right gives: its value, or the first fault that is met. By the laws of
-- src/laws.rt what is read is what Spelling.antt says, and is spelled so.
use Rattle.std.specs.Prelude.{ℕ, zero, suc, nat_lt, ◌==◌, if◌then◌else◌}
use Rattle.std.specs.Prelude.{List, [], ◌∷◌, length, Option, Some, None, Result, Ok, Err}
use Rattle.lg_rules.specs.declared.claim.Claim.{Claim}
use Rattle.lg_timers.specs.declared.timer.Timer.{Timer}
use Rattle.lg_timers.specs.declared.timer.TimerId.{TimerId}
use Rattle.lg_timers.specs.declared.timer.TimerId.TheVariants as timers
use Rattle.lg_detector.specs.declared.event.Event.{Event}
use Rattle.lg_detector.specs.declared.event.Event.TheVariants.{Open, Tick, Heard, Ask, Health, Pull, Leave}
use Rattle.lg_detector.specs.declared.reply.Answer.{Answer}
use Rattle.lg_detector.specs.declared.reply.Answer.TheVariants as answers
use Rattle.lg_detector.specs.declared.reply.Outgoing.{Outgoing}
use Rattle.lg_detector.specs.declared.reply.Reply.{Reply}
use Rattle.lg_history.specs.Meaning.History.{Entry}
use Rattle.lg_fields.specs.declared.fault.FieldFault.{FieldFault}
use Rattle.lg_fields.specs.declared.fault.FieldFault.TheVariants as faults
use Rattle.lg_fields.specs.Meaning.Scanned.{◌>>=◌, count_scan, flag_scan, place_scan, told_scan, records_scan}
use Rattle.lg_fields.specs.Meaning.Scanned.{config_scan, label_scan, word_scan, incarnation_scan, moment_scan, few_scan}
use Rattle.lg_recording.specs.Meaning.Values.{RecordedEntry, with_standstill}
use Rattle.lg_recording.specs.Meaning.Spelling.{greatest_seat, most_sent, most_names, words_of_event}

-- this many fields of one kind, one behind the other
unfoldable pub each_scan : {X : Type 0} → (List ℕ → Result (X × List ℕ) FieldFault)
    → ℕ → List ℕ → Result (List X × List ℕ) FieldFault
each_scan scan zero bytes = Ok ([], bytes)
each_scan scan (suc n) bytes = do
  first ← scan bytes
  others ← each_scan scan n first.1
  Ok (first.0 ∷ others.0, others.1)

-- eight random words
abbrev pub words_scan : List ℕ → Result (List ℕ × List ℕ) FieldFault
words_scan bytes = each_scan word_scan words_of_event bytes

-- ---- events, behind the byte for their kind

unfoldable pub open_scan : List ℕ → Result (Event × List ℕ) FieldFault
open_scan bytes = do
  now ← moment_scan bytes
  config ← config_scan now.1
  Ok (Open now.0 config.0, config.1)

unfoldable pub tick_scan : List ℕ → Result (Event × List ℕ) FieldFault
tick_scan bytes = do
  now ← moment_scan bytes
  words ← words_scan now.1
  Ok (Tick now.0 words.0, words.1)

unfoldable pub heard_scan : List ℕ → Result (Event × List ℕ) FieldFault
heard_scan bytes = do
  now ← moment_scan bytes
  source ← place_scan now.1
  packet ← told_scan source.1
  Ok (Heard now.0 source.0 packet.0, packet.1)

unfoldable pub ask_scan : List ℕ → Result (Event × List ℕ) FieldFault
ask_scan bytes = do
  now ← moment_scan bytes
  name ← label_scan now.1
  Ok (Ask now.0 name.0, name.1)

unfoldable pub health_scan : List ℕ → Result (Event × List ℕ) FieldFault
health_scan bytes = do
  now ← moment_scan bytes
  Ok (Health now.0, now.1)

unfoldable pub pull_scan : List ℕ → Result (Event × List ℕ) FieldFault
pull_scan bytes = do
  now ← moment_scan bytes
  peer ← place_scan now.1
  Ok (Pull now.0 peer.0, peer.1)

unfoldable pub leave_scan : List ℕ → Result (Event × List ℕ) FieldFault
leave_scan bytes = do
  now ← moment_scan bytes
  words ← words_scan now.1
  Ok (Leave now.0 words.0, words.1)

-- an event, by the byte for its kind
abbrev pub event_scan : List ℕ → Result (Event × List ℕ) FieldFault
event_scan [] = Err faults.Short
event_scan (kind ∷ bytes) =
    if kind == 1 then open_scan bytes
    else if kind == 2 then tick_scan bytes
    else if kind == 3 then heard_scan bytes
    else if kind == 4 then ask_scan bytes
    else if kind == 5 then health_scan bytes
    else if kind == 6 then pull_scan bytes else if kind == 7 then leave_scan bytes else Err faults.Kind

-- ---- timers, behind the byte for their kind

abbrev pub suspicion_scan : List ℕ → Result (TimerId × List ℕ) FieldFault
suspicion_scan bytes = do
  member ← label_scan bytes
  Ok (timers.Suspicion member.0, member.1)

abbrev pub relay_nack_scan : List ℕ → Result (TimerId × List ℕ) FieldFault
relay_nack_scan bytes = do
  relay ← word_scan bytes
  Ok (timers.RelayNack relay.0, relay.1)

abbrev pub relay_end_scan : List ℕ → Result (TimerId × List ℕ) FieldFault
relay_end_scan bytes = do
  relay ← word_scan bytes
  Ok (timers.RelayEnd relay.0, relay.1)

abbrev pub forget_scan : List ℕ → Result (TimerId × List ℕ) FieldFault
forget_scan bytes = do
  member ← label_scan bytes
  Ok (timers.Forget member.0, member.1)

-- the id of a timer, by the byte for its kind
unfoldable pub id_scan : ℕ → List ℕ → Result (TimerId × List ℕ) FieldFault
id_scan kind bytes =
    if kind == 1 then Ok (timers.RoundEnd, bytes)
    else if kind == 2 then suspicion_scan bytes
    else if kind == 3 then Ok (timers.Direct, bytes)
    else if kind == 4 then relay_nack_scan bytes
    else if kind == 5 then relay_end_scan bytes
    else if kind == 6 then Ok (timers.RoundStart, bytes)
    else if kind == 7 then forget_scan bytes
    else if kind == 8 then Ok (timers.Gossip, bytes) else Err faults.Kind

unfoldable pub timer_scan : ℕ → List ℕ → Result (Option Timer × List ℕ) FieldFault
timer_scan kind bytes = do
  id ← id_scan kind bytes
  deadline ← count_scan id.1
  Ok (Some (record { deadline = deadline.0; id = id.0 }), deadline.1)

-- the timer that fired, if one did
abbrev pub fired_scan : List ℕ → Result (Option Timer × List ℕ) FieldFault
fired_scan [] = Err faults.Short
fired_scan (kind ∷ bytes) = if kind == 0 then Ok (None, bytes) else timer_scan kind bytes

-- ---- the other parts of a reply

unfoldable pub send_scan : List ℕ → Result (Outgoing × List ℕ) FieldFault
send_scan bytes = do
  to ← place_scan bytes
  packet ← told_scan to.1
  Ok (record { to = to.0; packet = packet.0 }, packet.1)

unfoldable pub sends_scan : List ℕ → Result (List Outgoing × List ℕ) FieldFault
sends_scan bytes = do
  count ← few_scan most_sent bytes
  each_scan send_scan count.0 count.1

unfoldable pub names_scan : List ℕ → Result (List (List ℕ) × List ℕ) FieldFault
names_scan bytes = do
  count ← few_scan most_names bytes
  each_scan label_scan count.0 count.1

-- a record alone
abbrev pub only_record : List Claim → List ℕ → Result (Option Answer × List ℕ) FieldFault
only_record [] bytes = Err faults.Count
only_record (claim ∷ []) bytes = Ok (Some (answers.Status (Some claim)), bytes)
only_record (claim ∷ other ∷ others) bytes = Err faults.Count

unfoldable pub known_scan : List ℕ → Result (Option Answer × List ℕ) FieldFault
known_scan bytes = do
  claims ← records_scan bytes
  only_record claims.0 claims.1

unfoldable pub standing_scan : List ℕ → Result (Option Answer × List ℕ) FieldFault
standing_scan bytes = do
  score ← count_scan bytes
  number ← incarnation_scan score.1
  members ← count_scan number.1
  Ok (Some (answers.Health score.0 number.0 members.0), members.1)

-- the answer, by the byte for its kind
abbrev pub answer_scan : List ℕ → Result (Option Answer × List ℕ) FieldFault
answer_scan [] = Err faults.Short
answer_scan (kind ∷ bytes) =
    if kind == 0 then Ok (None, bytes)
    else if kind == 1 then Ok (Some (answers.Status None), bytes)
    else if kind == 2 then known_scan bytes else if kind == 3 then standing_scan bytes else Err faults.Kind

unfoldable pub reply_scan : List ℕ → Result (Reply × List ℕ) FieldFault
reply_scan bytes = do
  fired ← fired_scan bytes
  sends ← sends_scan fired.1
  changed ← records_scan sends.1
  forgotten ← names_scan changed.1
  answer ← answer_scan forgotten.1
  ousted ← flag_scan answer.1
  next ← count_scan ousted.1
  Ok (
    record {
      fired = fired.0;
      sends = record { items = sends.0 };
      changed = record { items = changed.0 };
      forgotten = record { items = forgotten.0 };
      answer = answer.0;
      ousted = ousted.0;
      next = next.0;
    },
    next.1,
  )

-- ---- the whole_of

abbrev pub seat_scan : List ℕ → Result (ℕ × List ℕ) FieldFault
seat_scan [] = Err faults.Short
seat_scan (seat ∷ bytes) = if nat_lt greatest_seat seat then Err faults.Number else Ok (seat, bytes)

unfoldable pub entry_scan : List ℕ → Result (Entry × List ℕ) FieldFault
entry_scan bytes = do
  seat ← seat_scan bytes
  event ← event_scan seat.1
  reply ← reply_scan event.1
  Ok (record { seat = seat.0; event = event.0; reply = reply.0 }, reply.1)

-- an entry with how long the clock stood still before it
unfoldable pub recorded_scan : List ℕ → Result (RecordedEntry × List ℕ) FieldFault
recorded_scan bytes = do
  entry ← entry_scan bytes
  stood_still ← count_scan entry.1
  Ok (with_standstill entry.0 stood_still.0, stood_still.1)

-- what takes up all of the bytes
abbrev pub whole_of : {X : Type 0} → X × List ℕ → Result X FieldFault
whole_of x = if length x.1 == 0 then Ok x.0 else Err faults.Trailing

-- the entry that a body is
unfoldable pub recorded_of : List ℕ → Result RecordedEntry FieldFault
recorded_of body = do
  recorded ← recorded_scan body
  whole_of recorded
