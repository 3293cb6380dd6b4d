-- What a call of C does to the state of the detector that C holds.
use Rattle.std.specs.Prelude.{◌≡◌, ◌≢◌, ℕ, true, List, [], ◌∷◌, length, Option, Some, None, Result, Ok, Err}
use Rattle.std.specs.Prelude.{if◌then◌else◌}
use Rattle.lg_detector.specs.declared.event.Event.{Event}
use Rattle.lg_detector.specs.Meaning.Step.{deadline_after, is_accepted, view_after}
use Rattle.lg_detector.specs.Meaning.Timing.{or_zero}
use Rattle.lg_detector.specs.Support.State.{State}
use Rattle.lg_detector.specs.Support.Step.{state_after}
use Rattle.lg_c_values.specs.declared.record.LgRecord.{LgRecord}
use Rattle.lg_c.specs.declared.reply.LgReply.{LgReply}
use Rattle.lg_c.specs.Meaning.Calls.{events_after, given_after, given_opening, opening_status, records_listed}
use Rattle.lg_c.specs.Meaning.Calls.{status_after, status_listed}
use Rattle.lg_c.specs.Meaning.Statuses.{status_closed, status_no_memory, status_ok, status_open}

-- A call with an event: [the event; the state and the reply that it finds; the status that it answers; the state and
-- the reply that it leaves]. They are those after each accepted list of events that leads to the state.
abbrev pub Advances : Event → State → LgReply → ℕ → State → LgReply → Type 0
Advances e s old status t new =
    (f : List Event) → s ≡ state_after f → is_accepted f ≡ true
    → (status ≡ status_after f e)
    × (t ≡ state_after (events_after f e))
    × (is_accepted (events_after f e) ≡ true)
    × (new ≡ given_after f e old)

-- a call with what C tells: if that is no event, nothing changes
abbrev pub AnswersTold : Result Event ℕ → State → LgReply → ℕ → State → LgReply → Type 0
AnswersTold (Ok e) s old status t new = Advances e s old status t new
AnswersTold (Err fault) s old status t new = (status ≡ fault) × (t ≡ s) × (new ≡ old)

-- the same of what C holds: a closed detector stays closed, and an open one stays open
abbrev pub AnswersHeld : Result Event ℕ → Option State → LgReply → ℕ → Option State → LgReply → Type 0
AnswersHeld told None old status after new = (status ≡ status_closed) × (after ≡ None) × (new ≡ old)
AnswersHeld told (Some s) old status None new = ⊥
AnswersHeld told (Some s) old status (Some t) new = AnswersTold told s old status t new

-- the state that an opening leaves
abbrev pub state_opened : Event → Option State
state_opened e = if is_accepted (e ∷ []) then Some (state_after (e ∷ [])) else None

-- a call that opens a detector by what C tells
abbrev pub OpensHeld : Result Event ℕ → Option State → LgReply → ℕ → Option State → LgReply → Type 0
OpensHeld told (Some s) old status after new = (status ≡ status_open) × (after ≡ Some s) × (new ≡ old)
OpensHeld (Err fault) None old status after new = (status ≡ fault) × (after ≡ None) × (new ≡ old)
OpensHeld (Ok e) None old status after new =
    (status ≡ status_no_memory → (after ≡ None) × (new ≡ old))
    × (status ≢ status_no_memory
    → (status ≡ opening_status e) × (after ≡ state_opened e) × (new ≡ given_opening e old))

-- A call for the table: [the state; the records of C that it finds; the status; the records that it leaves; how many
-- the table has].
abbrev pub Lists : State → List LgRecord → ℕ → List LgRecord → ℕ → Type 0
Lists s old status new count =
    (f : List Event) → s ≡ state_after f
    → (status ≡ status_listed (view_after f) old)
    × (new ≡ records_listed (view_after f) old)
    × (count ≡ length (view_after f))

-- the same of what C holds, which stays as it is
abbrev pub ListsHeld : Option State → Option State → List LgRecord → ℕ → ℕ → List LgRecord → ℕ → Type 0
ListsHeld None after old before status new count =
    (status ≡ status_closed) × (after ≡ None) × (new ≡ old) × (count ≡ before)
ListsHeld (Some s) after old before status new count = (after ≡ Some s) × Lists s old status new count

-- the least deadline of a detector, or 0 if no timer is set
abbrev pub IsNext : State → ℕ → Type 0
IsNext s next = (f : List Event) → s ≡ state_after f → next ≡ or_zero (deadline_after f)

-- a call for the least deadline of what C holds, which stays as it is
abbrev pub TellsNext : Option State → Option State → ℕ → ℕ → ℕ → Type 0
TellsNext None after before status next = (status ≡ status_closed) × (after ≡ None) × (next ≡ before)
TellsNext (Some s) after before status next = (status ≡ status_ok) × (after ≡ Some s) × IsNext s next
