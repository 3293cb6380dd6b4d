-- The changes of a list of events: whom each of its events forgot, and which records it changed (this project's
-- choice).
use Rattle.std.specs.Prelude.{ℕ, ◌+◌, Bool, is_none, List, [], ◌∷◌, ◌++◌, length, map, filter, if◌then◌else◌}
use Rattle.lg_rules.specs.declared.claim.Claim.{Claim}
use Rattle.lg_rules.specs.Meaning.Claim.{name_of}
use Rattle.lg_rules.specs.Meaning.Rows.{name_cmp, row_at}
use Rattle.lg_changes.specs.declared.change.Change.{Change}
use Rattle.lg_changes.specs.Meaning.Changes.{recorded_at, forgotten_at}
use Rattle.lg_detector.specs.declared.event.Event.{Event}
use Rattle.lg_detector.specs.Meaning.Step.{is_open_event, moment_after, reply_after, view_after}

-- The records that an event changed, which came behind these events: those that its reply tells, in the order of names.
-- The reply to an opening tells none. It makes the records of this member and of its seeds, which are the whole table.
unfoldable pub changed_at : List Event → Event → List Claim
changed_at before e = if is_open_event e then view_after (before ++ e ∷ []) else (reply_after before e).changed.items

-- The names that an event forgot, which came behind these events: those that its reply tells, in their order, but for
-- those that are known again once the event is over. What changes of such a member is its record.
abbrev pub is_unknown_after : List Event → List ℕ → Bool
is_unknown_after events name = is_none (row_at name_cmp name_of name (view_after events))

unfoldable pub forgotten_in : List Event → Event → List (List ℕ)
forgotten_in before e = filter (is_unknown_after (before ++ e ∷ [])) (reply_after before e).forgotten.items

-- Some names that were forgotten and some records, each as a change: first the names, and then the records.
abbrev pub changes_by : ℕ → ℕ → List (List ℕ) → List Claim → List Change
changes_by version moment names records =
    map (forgotten_at version moment) names ++ map (recorded_at version moment) records

-- The changes of an event: the names that it forgot and the records that it changed. Each has how many events there
-- were then, and the greatest moment handed in by then.
unfoldable pub changes_at : List Event → Event → List Change
changes_at before e =
    changes_by (length before + 1) (moment_after (before ++ e ∷ [])) (forgotten_in before e) (changed_at before e)

-- the changes of some events that come behind others, the oldest first
unfoldable pub changes_behind : List Event → List Event → List Change
changes_behind before [] = []
changes_behind before (e ∷ later) = changes_at before e ++ changes_behind (before ++ e ∷ []) later

-- the changes of a list of events, the oldest first
abbrev pub changes_of : List Event → List Change
changes_of events = changes_behind [] events
