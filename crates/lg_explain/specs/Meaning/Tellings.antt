-- What is told of an entry behind those before it. Entries are listed with the latest first.
use Rattle.std.specs.Prelude.{ℕ, max, if◌then◌else◌, ◌||◌}
use Rattle.std.specs.Prelude.{List, [], ◌∷◌, ◌++◌, Option, Some, None, is_some, unwrap_or}
use Rattle.lg_detector.specs.declared.event.Event.{Event}
use Rattle.lg_detector.specs.Meaning.Step.{is_accepted, own_standing_after, suspicion_standing_after, view_after}
use Rattle.lg_notes.specs.Meaning.About.{changes_verdict, teller_of}
use Rattle.lg_notes.specs.Meaning.Insights.{InsightsValue}
use Rattle.lg_notes.specs.Meaning.Steps.{steps_of}
use Rattle.lg_notes.specs.Meaning.Watching.{is_calm, watch_behind}
use Rattle.lg_notes.specs.declared.insights.Insight.{Insight}
use Rattle.lg_explain.specs.declared.rounds.RecentRounds.{RecentRounds}
use Rattle.lg_notes.specs.declared.watch.Watch.{Watch}
use Rattle.lg_replay.specs.Meaning.Lives.{past_with}
use Rattle.lg_replay.specs.Meaning.Words.{moment_of_event}
use Rattle.lg_explain.specs.Meaning.Places.{PlacedEntry, calm_watch}
use Rattle.lg_explain.specs.Meaning.Rounds.{end_of_round, recent_rounds}
use Rattle.lg_explain.specs.Meaning.Standstills.{minute_of, stood_at, stood_in_minute}
use Rattle.lg_notes.specs.declared.insights.MinuteBefore.{MinuteBefore}
use Rattle.lg_explain.specs.declared.standstills.StoodStill.{StoodStill}
use Rattle.lg_accounts.specs.Meaning.Values.{NoteValue}
use Rattle.lg_explain.specs.Meaning.Told.{EntryTold}
use Rattle.lg_explain.specs.declared.rounds.RoundEnd.{RoundEnd}

-- ---- what was before an entry

-- The greatest moment of some entries, back to the last one that doesn't go on with the one before it, or 0 if there
-- are none.
abbrev pub greatest_so_far : List PlacedEntry → ℕ
greatest_so_far [] = 0
greatest_so_far (x ∷ past) =
    max (if is_some x.begun then 0 else greatest_so_far past) (moment_of_event x.entry.event)

-- the watch of the member behind some entries
abbrev pub watch_after : List PlacedEntry → Watch
watch_after [] = calm_watch
watch_after (x ∷ past) =
    watch_behind x.subject (greatest_so_far (x ∷ past)) (unwrap_or x.begun (watch_after past)) x.entry.event
    x.entry.reply

-- The watch before an entry: the one that begins with it, or that behind those before it.
abbrev pub watch_before : PlacedEntry → List PlacedEntry → Watch
watch_before x past = unwrap_or x.begun (watch_after past)

-- The ends of rounds among some entries, back to the last one that doesn't go on with the one before it. Each was at
-- the greatest moment so far, as for the detector.
abbrev pub round_ends : List PlacedEntry → List RoundEnd
round_ends [] = []
round_ends (x ∷ past) =
    end_of_round (greatest_so_far (x ∷ past)) x.entry.reply ++ (if is_some x.begun then [] else round_ends past)

-- the rounds that ended in the minute before an entry
abbrev pub recent_before : PlacedEntry → List PlacedEntry → RecentRounds
recent_before x past =
    recent_rounds (greatest_so_far (x ∷ past)) (if is_some x.begun then [] else round_ends past)

-- For how long the clock stood still, as each of some entries says, back to the last one that doesn't go on with the
-- one before it. Each is at the greatest moment so far.
abbrev pub all_stood : List PlacedEntry → List StoodStill
all_stood [] = []
all_stood (x ∷ past) =
    stood_at (greatest_so_far (x ∷ past)) x.stood_still_ms ∷ (if is_some x.begun then [] else all_stood past)

-- What was in the minute before an entry. For how long the clock stood still is said by the entry too.
abbrev pub minute_before : PlacedEntry → List PlacedEntry → MinuteBefore
minute_before x past =
    minute_of (recent_before x past) (stood_in_minute (greatest_so_far (x ∷ past)) (all_stood (x ∷ past)))

-- What the definitions say behind some events, the earliest first, of the node and of the member.
abbrev pub insight_after : List ℕ → List Event → Insight
insight_after name f = record { score = (own_standing_after f).score; suspicion = suspicion_standing_after f name }

-- The same before and after an event, with the table after it: if all events before it are known, and it is accepted
-- behind them.
unfoldable pub insights_at : List ℕ → Option (List Event) → Event → Option InsightsValue
insights_at name None e = None
insights_at name (Some f) e =
    let g = f ++ e ∷ [] in
    if is_accepted g then Some (insight_after name f, insight_after name g, view_after g) else None

-- ---- what is told of it

-- what an entry tells behind those before it
abbrev pub note_of : PlacedEntry → List PlacedEntry → NoteValue
note_of x past = record {
  entry = x.number;
  moment = moment_of_event x.entry.event;
  wall_ms = x.wall_ms;
  teller = teller_of x.subject x.entry.event;
  steps =
      steps_of x.subject (watch_before x past) x.entry.event x.entry.reply
      (insights_at x.subject.name x.past x.entry.event) (minute_before x past);
}

-- what matters of an entry behind those before it
abbrev pub told_behind : PlacedEntry → List PlacedEntry → EntryTold
told_behind x past = record {
  begins = is_some x.begun || is_calm (watch_before x past);
  is_verdict = changes_verdict x.subject.name x.entry.reply;
  is_known = is_some (past_with x.past x.entry.event);
  note = note_of x past;
}

-- the same of each of some entries
abbrev pub all_told : List PlacedEntry → List EntryTold
all_told [] = []
all_told (x ∷ past) = told_behind x past ∷ all_told past
