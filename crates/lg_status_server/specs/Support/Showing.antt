-- What a site keeps, and what a look leaves.
use Rattle.std.specs.Prelude.{◌≡◌, List, length}
use mathlib.Core.List.{IsPrefix}
use Rattle.lg_changes.specs.declared.ring.Changes.{Changes}
use Rattle.lg_changes.specs.Meaning.Kept.{KeepsNewest}
use Rattle.lg_detector.specs.declared.event.Event.{Event}
use Rattle.lg_view.specs.Meaning.Changes.{changes_of}
use Rattle.lg_agent.specs.Meaning.Values.{PassValue}
use Rattle.lg_agent.specs.Meaning.Calls.{IsLook}
use Rattle.lg_follow.specs.Meaning.Sights.{OnlyLooked}
use Rattle.lg_answers.specs.declared.snapshot.Snapshot.{Snapshot}
use Rattle.lg_status_server.specs.declared.looked.Looked.{Looked}
use Rattle.lg_status_server.specs.declared.looked.Looked.TheVariants.{Same, Taken, Refused}
use Rattle.lg_status_server.specs.declared.reading.Reading.{Reading}
use Rattle.lg_status_server.specs.Meaning.Readings.{HasRead}
use Rattle.lg_status_server.specs.Meaning.Shown.{SiteShows, ShowsEvents, SiteValue}

-- it shows a list of events
abbrev pub IsSite : SiteValue → Type 0
IsSite site = (shown : List Event) × SiteShows site shown

-- what a snapshot says of the members is as it was
pub record SameLook (before after : Snapshot) : Type 0 where
  pub name : after.name ≡ before.name
  pub version : after.version ≡ before.version
  pub records : after.records ≡ before.records
  pub score : after.score ≡ before.score
  pub incarnation : after.incarnation ≡ before.incarnation
  pub ousted : after.ousted ≡ before.ousted

-- A ring that kept the newest changes of a beginning of these events keeps the newest changes of all of them.
abbrev pub KeepsOn : Changes → Changes → List Event → List Event → Type 0
KeepsOn before after shown events =
    IsPrefix shown events → KeepsNewest before (changes_of shown) → KeepsNewest after (changes_of events)

-- The rest of a snapshot is as it was: whatever was read of the clock and of the counters, it shows that.
pub record SameReading (before after : Snapshot) : Type 0 where
  pub name : after.name ≡ before.name
  pub read : (reading : Reading) → HasRead before reading → HasRead after reading

-- What a look leaves that found events: the snapshot shows them. If the ring kept the newest changes of as many events
-- as the snapshot showed before, it keeps those of all events.
pub record TakesLook (p p' : PassValue) (s s' : Snapshot) (c c' : Changes) : Type 0 where
  pub look : IsLook p p'
  pub shows : ShowsEvents s' p'.seen
  pub same : SameReading s s'
  pub kept : (shown : List Event) → s.version ≡ length shown → KeepsOn c c' shown p'.seen

-- What a look leaves that changes nothing of what is shown.
pub record LeavesLook (p p' : PassValue) (s s' : Snapshot) (c c' : Changes) : Type 0 where
  pub looked : OnlyLooked p p'
  pub snapshot : s' ≡ s
  pub changes : c' ≡ c

-- what a look leaves, by what came of it
abbrev pub LooksAs : Looked → PassValue → PassValue → Snapshot → Snapshot → Changes → Changes → Type 0
LooksAs Same p p' s s' c c' = LeavesLook p p' s s' c c' × (s.version ≡ length p'.seen)
LooksAs Taken p p' s s' c c' = TakesLook p p' s s' c c'
LooksAs Refused p p' s s' c c' = LeavesLook p p' s s' c c'
