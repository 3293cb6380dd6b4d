-- What an update does to the list of events that the published value is after.
use Rattle.std.specs.Prelude.{◌+◌, ◌==◌, if◌then◌else◌, List, [], ◌∷◌, length, Option, Some, None}
use Rattle.lg_detector.specs.declared.event.Event.{Event}

-- an event that was added, and the list that ends with it
pub record AddedValue : Type 0 where
  pub events : List Event
  pub event : Event

-- the events that wait
abbrev pub waiting_of : Option AddedValue → List Event
waiting_of None = []
waiting_of (Some a) = a.event ∷ []

-- the list after an update, which counts only if it goes on by one event
abbrev pub taken_events : List Event → Option AddedValue → List Event
taken_events f None = f
taken_events f (Some a) = if length f + 1 == length a.events then a.events else f
