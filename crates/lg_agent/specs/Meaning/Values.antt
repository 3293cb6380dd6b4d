-- What contracts see of the value under the lock, of a pass, and of an agent.
use Rattle.std.specs.Prelude.{ℕ, ◌+◌, List, [], ◌∷◌, ◌++◌, length, Option, None}
use Rattle.lg_detector.specs.declared.event.Event.{Event}
use Rattle.lg_detector.specs.declared.event.Event.TheVariants.{Open}
use Rattle.lg_detector.specs.Support.State.{State}
use Rattle.lg_history.specs.Meaning.History.{Entry, events}

-- The value under the lock: how many passes there are, how many entries may be stored, and the stored entries. If
-- others were cut off before them, it also has a summary of those, how many of them each seat made, and their events.
pub record KeptValue : Type 0 where
  pub places : ℕ
  pub limit : ℕ
  pub summary : Option State
  pub cut : List ℕ
  pub past : List Event
  pub history : List Entry

-- all events since the opening, that one included
abbrev pub all_events : KeptValue → List Event
all_events l = l.past ++ events l.history

-- how many
abbrev pub count_of : KeptValue → ℕ
count_of l = length l.history + length l.past

-- What a rotation hands out: the entries that it cut off, a summary of those that were cut off before, if any were, and
-- how many these are.
pub record CutOffValue : Type 0 where
  pub entries : List Entry
  pub before : Option State
  pub base : ℕ

-- what nothing was handed out to yet
abbrev pub nothing_cut_off : CutOffValue
nothing_cut_off = record { entries = []; before = None; base = 0 }

-- what a rotation of this ledger hands out: all its entries, with the summary that it had
abbrev pub handed_out : KeptValue → CutOffValue
handed_out l = record { entries = l.history; before = l.summary; base = length l.past }

-- A pass: the name of its agent, its seat, the events that it has seen, and the positions of its answered calls in
-- the history. Of the first calls, whose entries were cut off, only the number is kept.
pub record PassValue : Type 0 where
  pub name : List ℕ
  pub seat : ℕ
  pub seen : List Event
  pub gone : ℕ
  pub mine : List ℕ

-- An agent: its name, and for each seat that waits for a pass the events that its look has seen.
pub record AgentValue : Type 0 where
  pub name : List ℕ
  pub told : List (List Event)

-- the name that an opening gives
abbrev pub name_opened : Event → List ℕ
name_opened (Open now config) = config.name
name_opened _ = []

-- the most entries that an opening allows
abbrev pub limit_in : Event → ℕ
limit_in (Open now config) = config.history_limit
limit_in _ = 0

-- the most entries that may be stored: those that the opening allows
abbrev pub own_limit : List Event → ℕ
own_limit [] = 0
own_limit (e ∷ f) = limit_in e

-- the name of the member whose events these are: that of its opening
abbrev pub own_name : List Event → List ℕ
own_name [] = []
own_name (e ∷ f) = name_opened e
