-- Which entries have a spelling: those of the ranges that the program's types hold.
use Rattle.std.specs.Prelude.{◌≡◌, ℕ, ◌<◌, ◌≤◌, ◌^◌, IsTrue}
use Rattle.std.specs.Prelude.{List, length, Option, Some, None}
use Rattle.std.specs.List.{AllByRecursion}
use Rattle.lg_rules.specs.Meaning.Bounds.{greatest_incarnation}
use Rattle.lg_rules.specs.Meaning.Name.{is_name}
use Rattle.lg_rules.specs.declared.version.Version.TheVariants.{Three}
use Rattle.lg_timing.specs.declared.moment.TheConstants.{MAX_MOMENT}
use Rattle.lg_timers.specs.declared.timer.Timer.{Timer}
use Rattle.lg_timers.specs.declared.timer.TimerId.{TimerId}
use Rattle.lg_timers.specs.declared.timer.TimerId.TheVariants as timers
use Rattle.lg_packet.specs.Meaning.Spelling.{IsClaim}
use Rattle.lg_detector.specs.declared.event.Event.{Event}
use Rattle.lg_detector.specs.declared.event.Event.TheVariants.{Open, Tick, Heard, Ask, Health, Pull, Leave}
use Rattle.lg_detector.specs.declared.reply.Answer.{Answer}
use Rattle.lg_detector.specs.declared.reply.Answer.TheVariants as answers
use Rattle.lg_detector.specs.declared.reply.Outgoing.{Outgoing}
use Rattle.lg_detector.specs.declared.reply.Reply.{Reply}
use Rattle.lg_history.specs.Meaning.History.{Entry}
use Rattle.lg_fields.specs.Meaning.Spelled.{IsCount, IsPlace, IsTellable, AreRecords, IsConfigSpelled}
use Rattle.lg_recording.specs.Meaning.Values.{RecordedEntry}
use Rattle.lg_recording.specs.Meaning.Spelling.{greatest_seat, most_sent, most_names, words_of_event}

-- the moment of an event: at most the last one
abbrev pub IsMoment : ℕ → Type 0
IsMoment now = now ≤ MAX_MOMENT

-- eight random words of four bytes each
abbrev pub IsWord : ℕ → Type 0
IsWord word = word < 2 ^ 32

pub record AreWordsSpelled (words : List ℕ) : Type 0 where
  pub count : length words ≡ words_of_event
  pub each : AllByRecursion IsWord words

-- An event: moments, names and addresses that are such, and a packet that its version can tell in its own way.
abbrev pub IsEventSpelled : Event → Type 0
IsEventSpelled (Open now config) = IsMoment now × IsConfigSpelled config
IsEventSpelled (Tick now words) = IsMoment now × AreWordsSpelled words
IsEventSpelled (Heard now source packet) = IsMoment now × IsPlace source × IsTellable packet
IsEventSpelled (Ask now name) = IsMoment now × IsTrue (is_name name)
IsEventSpelled (Health now) = IsMoment now
IsEventSpelled (Pull now peer) = IsMoment now × IsPlace peer
IsEventSpelled (Leave now words) = IsMoment now × AreWordsSpelled words

-- what a timer is about: a member with a name, or a relay with a number of four bytes
abbrev pub IsTimerIdSpelled : TimerId → Type 0
IsTimerIdSpelled timers.RoundEnd = Unit {0}
IsTimerIdSpelled (timers.Suspicion member) = IsTrue (is_name member)
IsTimerIdSpelled timers.Direct = Unit {0}
IsTimerIdSpelled (timers.RelayNack relay) = relay < 2 ^ 32
IsTimerIdSpelled (timers.RelayEnd relay) = relay < 2 ^ 32
IsTimerIdSpelled timers.RoundStart = Unit {0}
IsTimerIdSpelled (timers.Forget member) = IsTrue (is_name member)
IsTimerIdSpelled timers.Gossip = Unit {0}

-- the timer that fired, if one did
abbrev pub IsFiredSpelled : Option Timer → Type 0
IsFiredSpelled None = Unit {0}
IsFiredSpelled (Some timer) = IsTimerIdSpelled timer.id × IsCount timer.deadline

-- a packet that is sent, and at most eight of them
abbrev pub IsSendSpelled : Outgoing → Type 0
IsSendSpelled outgoing = IsPlace outgoing.to × IsTellable outgoing.packet

pub record AreSendsSpelled (sends : List Outgoing) : Type 0 where
  pub few : length sends ≤ most_sent
  pub each : AllByRecursion IsSendSpelled sends

-- at most twelve names
abbrev pub IsNamed : List ℕ → Type 0
IsNamed name = IsTrue (is_name name)

pub record AreNamesSpelled (names : List (List ℕ)) : Type 0 where
  pub few : length names ≤ most_names
  pub each : AllByRecursion IsNamed names

-- the answer, if there is one
abbrev pub IsAnswerSpelled : Option Answer → Type 0
IsAnswerSpelled None = Unit {0}
IsAnswerSpelled (Some (answers.Status None)) = Unit {0}
IsAnswerSpelled (Some (answers.Status (Some claim))) = IsClaim Three claim
IsAnswerSpelled (Some (answers.Health score number members)) =
    IsCount score × (number ≤ greatest_incarnation) × IsCount members

pub record IsReplySpelled (r : Reply) : Type 0 where
  pub fired : IsFiredSpelled r.fired
  pub sends : AreSendsSpelled r.sends.items
  pub changed : AreRecords r.changed.items
  pub forgotten : AreNamesSpelled r.forgotten.items
  pub answer : IsAnswerSpelled r.answer
  pub next : IsCount r.next

pub record IsEntrySpelled (e : Entry) : Type 0 where
  pub seat : e.seat ≤ greatest_seat
  pub event : IsEventSpelled e.event
  pub reply : IsReplySpelled e.reply

-- an entry that has a spelling, and a number of 64 bits
pub record IsRecordedSpelled (x : RecordedEntry) : Type 0 where
  pub entry : IsEntrySpelled x.entry
  pub stood_still : IsCount x.stood_still_ms
