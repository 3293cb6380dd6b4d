-- Episodes: the runs of entries that accounts are made of. An episode has its latest entry first, and of some episodes
-- the latest is the first.
use Rattle.std.specs.Prelude.{ℕ, nat_le, if◌then◌else◌, Bool, true, false}
use Rattle.std.specs.Prelude.{List, [], ◌∷◌, filter, map, reverse, Option, Some, None}
use Rattle.lg_accounts.specs.declared.step.NoteStep.{NoteStep}
use Rattle.lg_accounts.specs.Meaning.Values.{NoteValue}
use Rattle.lg_explain.specs.Meaning.Told.{EntryTold}

-- an entry with which no episode begins goes on with the latest one
abbrev pub run_joined : EntryTold → List (List EntryTold) → List (List EntryTold)
run_joined x [] = (x ∷ []) ∷ []
run_joined x (episode ∷ episodes) = (x ∷ episode) ∷ episodes

-- The episodes of some entries. One ends with the first entry after which the member is calm, or where the next begins:
-- an entry before which the member is calm begins one.
abbrev pub episodes : List EntryTold → List (List EntryTold)
episodes [] = []
episodes (x ∷ past) = if x.begins then (x ∷ []) ∷ episodes past else run_joined x (episodes past)

-- the moment of the first entry of an episode that changed the member's record to suspect, failed or left
abbrev pub verdict_or : Bool → ℕ → Option ℕ → Option ℕ
verdict_or is_verdict moment (Some first) = Some first
verdict_or is_verdict moment None = if is_verdict then Some moment else None

abbrev pub earliest_verdict : List EntryTold → Option ℕ
earliest_verdict [] = None
earliest_verdict (x ∷ past) = verdict_or x.is_verdict x.note.moment (earliest_verdict past)

-- Whether an episode is told, of those whose first verdict came at a moment or before.
abbrev pub came_by : ℕ → Option ℕ → Bool
came_by at None = false
came_by at (Some moment) = nat_le moment at

abbrev pub is_told_by : ℕ → List EntryTold → Bool
is_told_by at episode = came_by at (earliest_verdict episode)

-- whether an entry tells anything
abbrev pub has_step : List NoteStep → Bool
has_step [] = false
has_step (step ∷ steps) = true

abbrev pub tells_it : NoteValue → Bool
tells_it note = has_step note.steps

abbrev pub note_in : EntryTold → NoteValue
note_in x = x.note

-- the notes of an episode that tell something, the earliest first
abbrev pub notes_of : List EntryTold → List NoteValue
notes_of episode = reverse (filter tells_it (map note_in episode))

-- whether all events since the opening are known at the end of an episode
abbrev pub is_known_at : List EntryTold → Bool
is_known_at [] = false
is_known_at (x ∷ past) = x.is_known
