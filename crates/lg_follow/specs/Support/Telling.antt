-- How far a watcher has come, and what one turn does.
use Rattle.std.specs.Prelude.{◌≡◌, ◌⊎◌, ℕ, List, [], ◌++◌, length, Option, Some, None}
use Rattle.std.specs.Io.KnownBytes.{Appends}
use Rattle.lg_changes.specs.declared.behind.Behind.{Behind}
use Rattle.lg_changes.specs.declared.behind.Behind.TheVariants.{All, Missed}
use Rattle.lg_text.specs.Meaning.Running.{AppendsFront}
use Rattle.lg_detector.specs.declared.event.Event.{Event}
use Rattle.lg_view.specs.declared.overview.Overview.{Overview}
use Rattle.lg_agent.specs.declared.refusal.Refusal.TheVariants.{NoMemory, NoView}
use Rattle.lg_agent.specs.Meaning.Values.{PassValue}
use Rattle.lg_follow.specs.declared.watched.Watched.{Watched}
use Rattle.lg_follow.specs.declared.watched.Watched.TheVariants.{Told, Refused, WriterFailed}
use Rattle.lg_follow.specs.Meaning.Lines.{told_lines, changed_lines, missed_line, stood_line}
use Rattle.lg_follow.specs.Meaning.Sights.{sights_text, SightsGrow, EndsAt, OnlyLooked}

-- The text of what a look found: of its records; of its changes; and of the ones or the others, by whether anything was
-- told before.
abbrev pub members_text : Overview → List ℕ
members_text found = told_lines found.moment found.records.items

abbrev pub changes_text : Overview → Behind → List ℕ
changes_text found (All rows) = changed_lines rows.items
changes_text found (Missed ring) = missed_line found.moment ++ members_text found

abbrev pub found_text : Option ℕ → Overview → List ℕ
found_text None found = members_text found
found_text (Some version) found = changes_text found found.changes

-- What a watcher keeps: how many events the last sight has; none before the first.
abbrev pub HasTold : Option ℕ → List (List Event) → Type 0
HasTold None sights = sights ≡ []
HasTold (Some version) sights = (last : List Event) × EndsAt sights last × (version ≡ length last)

-- What was told so far, since a pass had seen `begin` and a writer had taken the bytes `held`.
pub record Telling (begin now : PassValue) (held holds : Option (List ℕ)) (version : Option ℕ) : Type 0 where
  pub looked : OnlyLooked begin now
  pub sights : List (List Event)
  pub grow : SightsGrow begin.seen sights now.seen
  pub written : Appends held holds (sights_text sights)
  pub recent : HasTold version sights

-- The same once the writer has failed: it took a beginning of the text.
pub record Failing (begin now : PassValue) (held holds : Option (List ℕ)) : Type 0 where
  pub looked : OnlyLooked begin now
  pub sights : List (List Event)
  pub grow : SightsGrow begin.seen sights now.seen
  pub written : AppendsFront held holds (sights_text sights)

-- what a turn leaves, by how it went
abbrev pub TurnedAs : Watched → PassValue → PassValue → Option (List ℕ) → Option (List ℕ) → Option ℕ → Type 0
TurnedAs Told begin now held holds version =
    (telling : Telling begin now held holds version) × EndsAt telling.sights now.seen
TurnedAs (Refused refusal) begin now held holds version =
    Telling begin now held holds version × ((refusal ≡ NoMemory) ⊎ (refusal ≡ NoView))
TurnedAs WriterFailed begin now held holds version = Failing begin now held holds

-- What a watcher does with the text of a look at n events: it writes it and keeps their number, or it is refused memory
-- and nothing changes, or the writer fails.
abbrev pub ToldAs : Watched → List ℕ → Option (List ℕ) → Option (List ℕ) → Option ℕ → Option ℕ → ℕ → Type 0
ToldAs Told text held holds version version' n = (version' ≡ Some n) × Appends held holds text
ToldAs (Refused refusal) text held holds version version' n =
    (refusal ≡ NoMemory) × (version' ≡ version) × (holds ≡ held)
ToldAs WriterFailed text held holds version version' n = (version' ≡ version) × AppendsFront held holds text

-- What a watcher does behind its last turn: it writes the last line, unless the writer has failed before.
abbrev pub FinishedAs : Watched → Watched → Option (List ℕ) → Option (List ℕ) → Type 0
FinishedAs WriterFailed end held holds = (end ≡ WriterFailed) × (holds ≡ held)
FinishedAs turned end held holds =
    (moment : ℕ) × (left_out : ℕ)
    × (((end ≡ turned) × Appends held holds (stood_line moment left_out))
    ⊎ ((end ≡ WriterFailed) × AppendsFront held holds (stood_line moment left_out)))
