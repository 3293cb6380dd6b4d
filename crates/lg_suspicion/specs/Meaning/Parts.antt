-- What is kept of a suspicion, and which suspicion it is by the names that have slots.
use Rattle.std.specs.Prelude.{
  ℕ,
  ◌+◌,
  ◌-◌,
  ◌≡◌,
  Bool,
  true,
  false,
  if◌then◌else◌,
  List,
  [],
  ◌∷◌,
  ◌++◌,
  length,
  slice_index_or,
  slice_set,
  Option,
  Some,
  None,
}
use Rattle.lg_bit_set.specs.Meaning.Flags.{count_set}
use Rattle.lg_rules.specs.Meaning.Rows.{name_cmp, in_order}
use Rattle.lg_rules.specs.Meaning.Slots.{slot_in}
use Rattle.lg_timing.specs.Meaning.TimeoutValue.{TimeoutValue}
use Rattle.lg_timing.specs.Meaning.Timeouts.{timeout_of}
use Rattle.lg_suspicion.specs.declared.standing.SuspicionStanding.{SuspicionStanding}
use Rattle.lg_suspicion.specs.Meaning.Accusers.{SuspicionValue}

-- When a suspicion was raised, its timeouts, and the accusers that count. Those that confirmed it and were known when
-- they did are in `members`, a set of slots. The first accuser and strangers are kept by their names.
pub record SuspicionParts : Type 0 where
  pub raised : ℕ
  pub timeout : TimeoutValue
  pub members : List Bool
  pub named : List (List ℕ)

-- how many accusers count
abbrev pub accuser_count : SuspicionParts → ℕ
accuser_count parts = count_set parts.members + length parts.named

-- the names that have the slots of a set, in the order of slots
abbrev pub names_in : List Bool → List (Option (List ℕ)) → List (List ℕ)
names_in [] names = []
names_in (flag ∷ flags) [] = []
names_in (true ∷ flags) (Some n ∷ names) = n ∷ names_in flags names
names_in (true ∷ flags) (None ∷ names) = names_in flags names
names_in (false ∷ flags) (o ∷ names) = names_in flags names

-- the suspicion by the names that have slots
abbrev pub accusers_by : List (Option (List ℕ)) → SuspicionParts → List (List ℕ)
accusers_by names parts = in_order name_cmp (names_in parts.members names ++ parts.named)

abbrev pub suspicion_by : List (Option (List ℕ)) → SuspicionParts → SuspicionValue
suspicion_by names parts =
    record { raised = parts.raised; timeout = parts.timeout; accusers = accusers_by names parts }

-- its deadline
abbrev pub deadline_of_parts : SuspicionParts → ℕ
deadline_of_parts parts = parts.raised + timeout_of parts.timeout (accuser_count parts - 1)

-- how it stands
abbrev pub standing_of_parts : SuspicionParts → SuspicionStanding
standing_of_parts parts =
    record { raised = parts.raised; timeout = parts.timeout; confirmations = accuser_count parts - 1 }

-- Names have the slots that the accusers had when they accused: each of these slots is that of a name, and no accuser
-- counts twice, once by its slot and once by its name.
abbrev pub HasName : List (Option (List ℕ)) → ℕ → Type 0
HasName names slot = (name : List ℕ) × (slot_in name names ≡ Some slot)

pub record IsKnownTo (names : List (Option (List ℕ))) (parts : SuspicionParts) : Type 0 where
  pub slots : (slot : ℕ) → slice_index_or parts.members slot false ≡ true → HasName names slot
  pub once : length (accusers_by names parts) ≡ accuser_count parts

-- The parts once the name that has a slot is forgotten: if it accuses by its slot, it accuses by its name from now on.
abbrev pub parts_without : ℕ → List ℕ → SuspicionParts → SuspicionParts
parts_without slot n parts =
    if slice_index_or parts.members slot false
    then record parts { members = slice_set parts.members slot false; named = parts.named ++ n ∷ [] }
    else parts
