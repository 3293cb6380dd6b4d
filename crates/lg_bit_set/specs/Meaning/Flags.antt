-- A set of numbers as flags: the flag at an index says whether that number is in the set.
use Rattle.std.specs.Prelude.{
  ℕ,
  ◌+◌,
  ◌-◌,
  Bool,
  true,
  false,
  not,
  ◌&&◌,
  List,
  [],
  ◌∷◌,
  ◌++◌,
  length,
  map,
  take,
  replicate,
  Option,
  slice_get,
  nat_lt,
}
use Rattle.std.specs.List.{count_by, range_with_len, insert, remove}
use Rattle.lg_bit_set.specs.declared.bit_set.TheConstants.{NUMBERS}

-- the flags of the empty set
unfoldable pub no_flags : List Bool
no_flags = replicate NUMBERS false

-- the flags of all numbers below a count
unfoldable pub flags_below : ℕ → List Bool
flags_below count = map (λ number. nat_lt number count) (range_with_len 0 NUMBERS)

-- how many flags are set
abbrev pub count_set : List Bool → ℕ
count_set flags = count_by (λ flag. flag) flags

-- the numbers whose flags are set, in rising order, if the first flag is that of this number
abbrev pub numbers_from : ℕ → List Bool → List ℕ
numbers_from first [] = []
numbers_from first (true ∷ flags) = first ∷ numbers_from (first + 1) flags
numbers_from first (false ∷ flags) = numbers_from (first + 1) flags

-- the numbers whose flags are set, in rising order
abbrev pub numbers_of : List Bool → List ℕ
numbers_of flags = numbers_from 0 flags

-- the number at an index among those whose flags are set, in rising order, if there are so many
abbrev pub nth_number : List Bool → ℕ → Option ℕ
nth_number flags index = slice_get (numbers_of flags) index

-- the numbers of one set that are not in another
abbrev pub flags_without : List Bool → List Bool → List Bool
flags_without [] others = []
flags_without (flag ∷ flags) [] = flag ∷ flags
flags_without (flag ∷ flags) (other ∷ others) = (flag && not other) ∷ flags_without flags others

-- the flags of those entries of a row that pass a test
unfoldable pub flags_by : {X : Type 0} → (X → Bool) → List X → List Bool
flags_by test row = map test row ++ replicate (NUMBERS - length row) false

-- the entries of a row whose numbers are in a set
abbrev pub entries_in : {X : Type 0} → List Bool → List X → List X
entries_in [] row = []
entries_in (flag ∷ flags) [] = []
entries_in (true ∷ flags) (x ∷ row) = x ∷ entries_in flags row
entries_in (false ∷ flags) (x ∷ row) = entries_in flags row

-- the flags once a number's place was opened: those from it on stand one further, and the last one is dropped
abbrev pub opened_flags : ℕ → List Bool → List Bool
opened_flags number flags = take (length flags) (insert flags number false)

-- the flags once a number's place was closed: those after it stand one earlier
abbrev pub closed_flags : ℕ → List Bool → List Bool
closed_flags number flags = remove flags number ++ false ∷ []
