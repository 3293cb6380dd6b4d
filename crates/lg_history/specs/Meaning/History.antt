-- What a history is, and which histories are legal.
use Rattle.std.specs.Prelude.{◌≡◌, ℕ, ◌+◌, ◌<◌, ◌≤◌, ◌==◌, true, if◌then◌else◌}
use Rattle.std.specs.Prelude.{List, [], ◌∷◌, ◌++◌, map, All, Option, Some, None}
use Rattle.lg_detector.specs.declared.event.Event.{Event}
use Rattle.lg_detector.specs.declared.reply.Reply.{Reply}
use Rattle.lg_detector.specs.Meaning.Step.{is_accepted, reply_after}

-- An entry: an event, the seat that made it, and the reply to it.
pub record Entry : Type 0 where
  pub seat : ℕ
  pub event : Event
  pub reply : Reply

abbrev pub entry : ℕ → Event → Reply → Entry
entry seat event reply = record { seat = seat; event = event; reply = reply }

-- what is prepared: an entry that has no reply yet
pub record WaitingValue : Type 0 where
  pub seat : ℕ
  pub event : Event

-- what a contract sees of a history: its entries, the earliest first, and what is prepared, if anything is
pub record HistoryValue : Type 0 where
  pub entries : List Entry
  pub prepared : Option WaitingValue

-- what is prepared becomes the last entry, with this reply
abbrev pub completed_by : Reply → List Entry → Option WaitingValue → List Entry
completed_by reply entries None = entries
completed_by reply entries (Some p) = entries ++ entry p.seat p.event reply ∷ []

abbrev pub completed : Reply → HistoryValue → HistoryValue
completed reply h = record { entries = completed_by reply h.entries h.prepared; prepared = None }

-- the events of a history
abbrev pub events : List Entry → List Event
events h = map (λ x. x.event) h

-- each entry has the reply that the definitions give after these events and those of the entries before it
abbrev pub Answered : List Event → List Entry → Type 0
Answered f [] = Unit {0}
Answered f (x ∷ h) = (x.reply ≡ reply_after f x.event) × Answered (f ++ x.event ∷ []) h

-- an entry of one of the seats 1 to `places`
abbrev pub IsSeat : ℕ → Entry → Type 0
IsSeat places x = (0 < x.seat) × (x.seat ≤ places)

-- there is a first entry, which has the seat 0, and each later one has one of the seats 1 to `places`
abbrev pub Seated : ℕ → List Entry → Type 0
Seated places [] = ⊥
Seated places (x ∷ h) = (x.seat ≡ 0) × All (IsSeat places) h

-- A history is legal if a single thread that steps one detector could have made it. Its events are accepted. The
-- opening has the seat 0, and each other event one of the seats 1 to `places`. Each reply is the one that the
-- definitions give after the events before it.
pub record IsLegal (places : ℕ) (h : List Entry) : Type 0 where
  pub accepted : is_accepted (events h) ≡ true
  pub seated : Seated places h
  pub answered : Answered [] h

-- the positions of the entries of a seat, if the first entry has the position n
abbrev pub positions : ℕ → ℕ → List Entry → List ℕ
positions seat n [] = []
positions seat n (x ∷ h) = if x.seat == seat then n ∷ positions seat (n + 1) h else positions seat (n + 1) h
