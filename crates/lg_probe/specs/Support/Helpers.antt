-- Numbers of the entries of a row.
use Rattle.std.specs.Prelude.{ℕ, ◌≡◌, Bool, List, length}
use Rattle.lg_bit_set.specs.Meaning.Flags.{count_set, entries_in}

-- each number in a set is that of an entry of the row
abbrev pub AreOfRow : List Bool → List (List ℕ) → Type 0
AreOfRow flags row = count_set flags ≡ length (entries_in flags row)
