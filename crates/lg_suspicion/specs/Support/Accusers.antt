-- How many accusers of a suspicion count, and what one more adds to those that are kept.
use Rattle.std.specs.Prelude.{ℕ, ◌+◌, ◌≤◌, Bool, true, false, List, [], ◌∷◌, ◌++◌, length, Option, Some, None}
use Rattle.std.specs.Prelude.{slice_index_or, slice_set}
use Rattle.lg_bit_set.specs.Meaning.Flags.{count_set}
use Rattle.lg_timing.specs.Meaning.TimeoutValue.{TimeoutValue}

pub record HasAccusers (timeout : TimeoutValue) (members : List Bool) (named : List (List ℕ)) : Type 0 where
  pub some : 1 ≤ count_set members + length named
  pub counted : count_set members + length named ≤ timeout.confirmations + 1

-- whether a slot, if there is one, is in a set
abbrev pub has_slot : Option ℕ → List Bool → Bool
has_slot None members = false
has_slot (Some slot) members = slice_index_or members slot false

-- the set with the slot of one more accuser, if it has one, and else the names with its name
abbrev pub members_with : Option ℕ → List Bool → List Bool
members_with None members = members
members_with (Some slot) members = slice_set members slot true

abbrev pub named_with : Option ℕ → List ℕ → List (List ℕ) → List (List ℕ)
named_with None accuser named = named ++ accuser ∷ []
named_with (Some slot) accuser named = named
