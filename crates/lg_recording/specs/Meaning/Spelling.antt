-- The one spelling of an entry of a recording, and what is told of it (the format is this project's choice).
use Rattle.std.specs.Prelude.{ℕ}
use Rattle.std.specs.Prelude.{List, [], ◌∷◌, ◌++◌, length, map, Option, Some, None}
use Rattle.std.specs.List.{flat_map}
use Rattle.lg_timers.specs.declared.timer.Timer.{Timer}
use Rattle.lg_timers.specs.declared.timer.TimerId.{TimerId}
use Rattle.lg_timers.specs.declared.timer.TimerId.TheVariants as timers
use Rattle.lg_timers.specs.Meaning.Timers.{kind_number}
use Rattle.lg_packet.specs.Meaning.Spelling.{spelled_name, spelled_number, spellable}
use Rattle.lg_detector.specs.declared.event.Event.{Event}
use Rattle.lg_detector.specs.declared.event.Event.TheVariants.{Open, Tick, Heard, Ask, Health, Pull, Leave}
use Rattle.lg_detector.specs.declared.reply.Answer.{Answer}
use Rattle.lg_detector.specs.declared.reply.Answer.TheVariants as answers
use Rattle.lg_detector.specs.declared.reply.Outgoing.{Outgoing}
use Rattle.lg_detector.specs.declared.reply.Reply.{Reply}
use Rattle.lg_history.specs.Meaning.History.{Entry}
use Rattle.lg_fields.specs.Meaning.Spelled.{spelled_count, spelled_flag, spelled_place, spelled_told, spelled_records}
use Rattle.lg_fields.specs.Meaning.Spelled.{spelled_config}
use Rattle.lg_recording.specs.Meaning.Values.{RecordedEntry, with_standstill}

-- the greatest seat of an entry: an agent has at most so many places
abbrev pub greatest_seat : ℕ
greatest_seat = 32

-- the most packets that a reply sends, the most names that it forgets, and the random words of an event
abbrev pub most_sent : ℕ
most_sent = 8

abbrev pub most_names : ℕ
most_names = 12

abbrev pub words_of_event : ℕ
words_of_event = 8

-- random words: four bytes each, the highest first
abbrev pub spelled_words : List ℕ → List ℕ
spelled_words words = flat_map spelled_number words

-- an event: a byte for its kind, its moment, and what it has besides
unfoldable pub spelled_event : Event → List ℕ
spelled_event (Open now config) = 1 ∷ (spelled_count now ++ spelled_config config)
spelled_event (Tick now words) = 2 ∷ (spelled_count now ++ spelled_words words)
spelled_event (Heard now source packet) = 3 ∷ (spelled_count now ++ (spelled_place source ++ spelled_told packet))
spelled_event (Ask now name) = 4 ∷ (spelled_count now ++ spelled_name name)
spelled_event (Health now) = 5 ∷ spelled_count now
spelled_event (Pull now peer) = 6 ∷ (spelled_count now ++ spelled_place peer)
spelled_event (Leave now words) = 7 ∷ (spelled_count now ++ spelled_words words)

-- the member, or the number of the relay, that a timer is about, if it is about one
abbrev pub spelled_subject : TimerId → List ℕ
spelled_subject timers.RoundEnd = []
spelled_subject (timers.Suspicion member) = spelled_name member
spelled_subject timers.Direct = []
spelled_subject (timers.RelayNack relay) = spelled_number relay
spelled_subject (timers.RelayEnd relay) = spelled_number relay
spelled_subject timers.RoundStart = []
spelled_subject (timers.Forget member) = spelled_name member
spelled_subject timers.Gossip = []

-- the timer that fired: a byte for its kind, whom it is about, and its deadline; or a byte 0 if none did
unfoldable pub spelled_fired : Option Timer → List ℕ
spelled_fired None = 0 ∷ []
spelled_fired (Some timer) = kind_number timer.id ∷ (spelled_subject timer.id ++ spelled_count timer.deadline)

-- a packet that is sent: its address and its bytes
abbrev pub spelled_send : Outgoing → List ℕ
spelled_send outgoing = spelled_place outgoing.to ++ spelled_told outgoing.packet

-- the packets that are sent: how many, and then those
unfoldable pub spelled_sends : List Outgoing → List ℕ
spelled_sends sends = spelled_count (length sends) ++ flat_map spelled_send sends

-- names: how many, and then those
unfoldable pub spelled_names : List (List ℕ) → List ℕ
spelled_names names = spelled_count (length names) ++ flat_map spelled_name names

-- the answer: a byte for its kind, which is 0 if there is none, and what it tells
unfoldable pub spelled_answer : Option Answer → List ℕ
spelled_answer None = 0 ∷ []
spelled_answer (Some (answers.Status None)) = 1 ∷ []
spelled_answer (Some (answers.Status (Some claim))) = 2 ∷ spelled_records (claim ∷ [])
spelled_answer (Some (answers.Health score number members)) =
    3 ∷ (spelled_count score ++ (spelled_number number ++ spelled_count members))

-- a reply: the timer that fired, the packets, the changed records, the forgotten names, the answer, the flag `ousted`
-- and the next deadline
unfoldable pub spelled_reply : Reply → List ℕ
spelled_reply r =
    spelled_fired r.fired
    ++ (spelled_sends r.sends.items
    ++ (spelled_records r.changed.items
    ++ (spelled_names r.forgotten.items
    ++ (spelled_answer r.answer ++ (spelled_flag r.ousted ++ spelled_count r.next)))))

-- an entry alone: a byte for its seat, its event and its reply
unfoldable pub spelled_entry : Entry → List ℕ
spelled_entry e = e.seat ∷ (spelled_event e.event ++ spelled_reply e.reply)

-- the body of an entry: the entry, and for how many milliseconds the clock stood still before it
unfoldable pub spelled_recorded : RecordedEntry → List ℕ
spelled_recorded x = spelled_entry x.entry ++ spelled_count x.stood_still_ms

-- What is told of an entry: each packet as what its version can tell, and all else as it is.
abbrev pub told_event : Event → Event
told_event (Open now config) = Open now config
told_event (Tick now words) = Tick now words
told_event (Heard now source packet) = Heard now source (spellable packet)
told_event (Ask now name) = Ask now name
told_event (Health now) = Health now
told_event (Pull now peer) = Pull now peer
told_event (Leave now words) = Leave now words

abbrev pub told_send : Outgoing → Outgoing
told_send outgoing = record outgoing { packet = spellable outgoing.packet }

abbrev pub told_sends : List Outgoing → List Outgoing
told_sends sends = map told_send sends

abbrev pub told_reply : Reply → Reply
told_reply r = record r { sends = record { items = told_sends r.sends.items } }

abbrev pub told_entry : Entry → Entry
told_entry e = record e { event = told_event e.event; reply = told_reply e.reply }

abbrev pub told_recorded : RecordedEntry → RecordedEntry
told_recorded x = with_standstill (told_entry x.entry) x.stood_still_ms

abbrev pub told_entries : List RecordedEntry → List RecordedEntry
told_entries entries = map told_recorded entries
