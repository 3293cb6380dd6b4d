-- What contracts see of a writer, what a look finds, and whether a list of events begins with its opening.
use Rattle.std.specs.Prelude.{◌≡◌, ℕ, List, length}
use Rattle.lg_changes.specs.Meaning.Kept.{HasBehind}
use Rattle.lg_detector.specs.declared.event.Event.{Event}
use Rattle.lg_detector.specs.Meaning.Step.{moment_after, view_after, own_standing_after}
use Rattle.lg_view.specs.declared.overview.Overview.{Overview}
use Rattle.lg_view.specs.Meaning.Changes.{changes_of}
-- the first event is an opening
pub use Rattle.lg_detector.specs.Meaning.Step.{begins_open}

-- the events that are published, and those that were appended since
pub record FeedValue : Type 0 where
  pub events : List Event
  pub waiting : List Event

-- What a look found is of this list of events: its length, the greatest moment, the member table, what this member
-- knows of itself, and the changes behind a version.
pub record IsOverview (found : Overview) (version : ℕ) (events : List Event) : Type 0 where
  pub version_is : found.version ≡ length events
  pub moment_is : found.moment ≡ moment_after events
  pub records_are : found.records.items ≡ view_after events
  pub standing_is : found.standing ≡ own_standing_after events
  pub changes_are : HasBehind found.changes version (changes_of events)
