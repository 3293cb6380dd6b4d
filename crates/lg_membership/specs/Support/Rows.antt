-- The rows of suspicions that a member keeps, with the accusers as slots, and what they are by the names of the slots.
use Rattle.std.specs.Prelude.{◌≡◌, ℕ, ⊤, Bool, true, false, Option, List, [], ◌∷◌, map, slice_index_or}
use Rattle.lg_suspicion.specs.Meaning.Parts.{suspicion_by, parts_without, IsKnownTo}
use Rattle.lg_membership.specs.declared.suspected.Suspected.{Suspected}
use Rattle.lg_membership.specs.Meaning.Suspicions.{SuspectedValue}

abbrev pub kept_name : Suspected → List ℕ
kept_name row = row.name

abbrev pub row_by : List (Option (List ℕ)) → Suspected → SuspectedValue
row_by names row = record { name = row.name; suspicion = suspicion_by names row.suspicion }

abbrev pub rows_by : List (Option (List ℕ)) → List Suspected → List SuspectedValue
rows_by names rows = map (row_by names) rows

-- a row once the name that has a slot is forgotten: if it accuses by its slot, it accuses by its name from now on
abbrev pub row_without : ℕ → List ℕ → Suspected → Suspected
row_without slot n row = record row { suspicion = parts_without slot n row.suspicion }

-- these names have the slots of the accusers
abbrev pub AreKnownTo : List (Option (List ℕ)) → List Suspected → Type 0
AreKnownTo names [] = ⊤
AreKnownTo names (row ∷ rows) = IsKnownTo names row.suspicion × AreKnownTo names rows

-- a set has each number of another
abbrev pub IsWithin : List Bool → List Bool → Type 0
IsWithin all flags = (number : ℕ) → slice_index_or flags number false ≡ true → slice_index_or all number false ≡ true

-- the slots of all accusers are in a set
abbrev pub AreAccusersIn : List Bool → List Suspected → Type 0
AreAccusersIn all [] = ⊤
AreAccusersIn all (row ∷ rows) = IsWithin all row.suspicion.members × AreAccusersIn all rows
