-- What a watcher tells of an agent, and what it does to its pass. Each look that it tells of is a sight: the list of
-- events that the look answered from.
use Rattle.std.specs.Prelude.{◌≡◌, ◌⊎◌, ℕ, true, Option, Some, None, IsSome}
use Rattle.std.specs.Prelude.{List, [], ◌∷◌, ◌++◌, length, filter}
use Rattle.std.specs.Io.KnownBytes.{Appends}
use mathlib.Core.List.{IsPrefix}
use Rattle.lg_rules.specs.declared.claim.Claim.{Claim}
use Rattle.lg_rules.specs.Meaning.Claim.{name_of}
use Rattle.lg_rules.specs.Meaning.Rows.{name_cmp, put_row, without_row}
use Rattle.lg_changes.specs.declared.change.Altered.{Altered}
use Rattle.lg_changes.specs.declared.change.Altered.TheVariants.{Recorded, Forgotten}
use Rattle.lg_changes.specs.declared.change.Change.{Change}
use Rattle.lg_changes.specs.Meaning.Changes.{changes_after, is_after}
use Rattle.lg_text.specs.Meaning.Running.{AppendsFront}
use Rattle.lg_detector.specs.declared.event.Event.{Event}
use Rattle.lg_detector.specs.Meaning.Step.{moment_after, view_after, is_accepted}
use Rattle.lg_view.specs.Meaning.Changes.{changes_of}
use Rattle.lg_agent.specs.declared.refusal.Refusal.TheVariants.{NoMemory, NoView}
use Rattle.lg_agent.specs.Meaning.Values.{PassValue}
use Rattle.lg_agent.specs.Meaning.Calls.{IsLook}
use Rattle.lg_follow.specs.declared.watched.Watched.{Watched}
use Rattle.lg_follow.specs.declared.watched.Watched.TheVariants.{Told, Refused, WriterFailed}
use Rattle.lg_follow.specs.Meaning.Lines.{told_lines, changed_lines, missed_line, stood_line}

-- The text of the first sight: a line for each member, in the order of names, at the greatest moment handed in.
abbrev pub first_text : List Event → List ℕ
first_text events = told_lines (moment_after events) (view_after events)

-- The text of a sight, by the changes behind the sight before it: a line for each of them. If they are no longer all
-- kept, a line says that changes were missed, and then there is a line for each member.
abbrev pub behind_text : List Event → Option (List Change) → List ℕ
behind_text events (Some changes) = changed_lines changes
behind_text events None = missed_line (moment_after events) ++ first_text events

-- The text of a sight, if this one was told before.
abbrev pub sight_text : List Event → List Event → List ℕ
sight_text before events = behind_text events (changes_after (length before) (changes_of events))

-- The text of sights, if this one was told before them.
unfoldable pub later_text : List Event → List (List Event) → List ℕ
later_text before [] = []
later_text before (s ∷ later) = sight_text before s ++ later_text s later

-- The text of all sights.
unfoldable pub sights_text : List (List Event) → List ℕ
sights_text [] = []
sights_text (s ∷ later) = first_text s ++ later_text s later

-- Sights whose lists of events are accepted and grow: each begins with the one before it. The first begins with what
-- was seen before the sights, and what is seen after them begins with the last.
unfoldable pub SightsGrow : List Event → List (List Event) → List Event → Type 0
SightsGrow from [] to = IsPrefix from to
SightsGrow from (s ∷ later) to = IsPrefix from s × (is_accepted s ≡ true) × SightsGrow s later to

-- the last of these sights is this list of events
pub record EndsAt (sights : List (List Event)) (events : List Event) : Type 0 where
  pub earlier : List (List Event)
  pub are : sights ≡ earlier ++ events ∷ []

-- No sight missed a change: at each, all changes behind the sight before it were still kept. This one was told before
-- them.
abbrev pub MissedNone : List Event → List (List Event) → Type 0
MissedNone before [] = Unit {0}
MissedNone before (s ∷ later) = IsSome (changes_after (length before) (changes_of s)) × MissedNone s later

-- the last of some sights, of which this one is the first
abbrev pub last_sight : List Event → List (List Event) → List Event
last_sight first [] = first
last_sight first (s ∷ later) = last_sight s later

-- all changes of a sight behind another one, the oldest first
abbrev pub changes_between : List Event → List Event → List Change
changes_between before events = filter (is_after (length before)) (changes_of events)

-- Each change is told once, and in order, however many looks were made: if no sight missed a change, the text is that
-- of the first sight, and then a line for each change behind it up to the last sight.
abbrev pub TellsEachChangeOnce : List (List Event) → Type 0
TellsEachChangeOnce [] = Unit {0}
TellsEachChangeOnce (first ∷ later) =
    MissedNone first later
    → sights_text (first ∷ later)
    ≡ first_text first ++ changed_lines (changes_between first (last_sight first later))

-- A table that was altered. A record takes the place of the record of its name; if there is none, it is added in the
-- order of names. The record of a name that was forgotten is taken out.
abbrev pub alter : Altered → List Claim → List Claim
alter (Recorded c) table = put_row name_cmp name_of c table
alter (Forgotten name) table = without_row name_cmp name_of name table

-- a table that these changes altered, one after another
abbrev pub alter_each : List Change → List Claim → List Claim
alter_each [] table = table
alter_each (change ∷ changes) table = alter_each changes (alter change.altered table)

-- The changes lead from this sight to the first of these, and from each of these to the next: the table of the one, as
-- the changes between the two sights alter it one after another, is the table of the other.
unfoldable pub LeadOn : List Event → List (List Event) → Type 0
LeadOn before [] = Unit {0}
LeadOn before (s ∷ later) =
    (alter_each (changes_between before s) (view_after before) ≡ view_after s) × LeadOn s later

-- The changes lead from each sight to the next, and so from the table of the first sight to that of each later one.
abbrev pub EachLeads : List (List Event) → Type 0
EachLeads [] = Unit {0}
EachLeads (first ∷ later) = LeadOn first later

-- Of a pass only looks were made, perhaps none. Looks one after another are one look.
abbrev pub OnlyLooked : PassValue → PassValue → Type 0
OnlyLooked before after = (after ≡ before) ⊎ IsLook before after

-- What a writer gained by a watcher, which was to write this text. `held` and `holds` are the bytes that it had taken
-- before and after, if it tells them. A writer that failed has gained a beginning of the text: none of it, a part or
-- all.
abbrev pub Gained : Watched → Option (List ℕ) → Option (List ℕ) → List ℕ → Type 0
Gained Told held holds text = Appends held holds text
Gained (Refused refusal) held holds text = Appends held holds text
Gained WriterFailed held holds text = AppendsFront held holds text

-- What each end of a watcher says. `seen` is all that its pass has seen then. If it is Told, the last sight is of all
-- these events. If the last turn was refused, it was for memory or for the view.
abbrev pub EndedAs : Watched → List (List Event) → List Event → Type 0
EndedAs Told sights seen = EndsAt sights seen
EndedAs (Refused refusal) sights seen = (refusal ≡ NoMemory) ⊎ (refusal ≡ NoView)
EndedAs WriterFailed sights seen = Unit {0}

-- What a watcher did from its start to its end, by its pass and by the bytes of its writer: it told some sights, and
-- wrote the last line behind them. Unless one of the sights missed a change, each change behind the first was told
-- once. The changes behind a sight make its table that of the next: without the names that were forgotten, and with the
-- records that changed.
pub record HasWatched (before after : PassValue) (held holds : Option (List ℕ)) (end : Watched) : Type 0 where
  pub looked : OnlyLooked before after
  pub sights : List (List Event)
  pub grow : SightsGrow before.seen sights after.seen
  pub each_once : TellsEachChangeOnce sights
  pub each_leads : EachLeads sights
  pub moment : ℕ
  pub left_out : ℕ
  pub written : Gained end held holds (sights_text sights ++ stood_line moment left_out)
  pub ended : EndedAs end sights after.seen
