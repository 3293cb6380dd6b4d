-- The helpers of a probe: members that are asked to probe its target too (the indirect probe by ping-req; SWIM,
-- section 3.1).
use Rattle.std.specs.Prelude.{ℕ, ◌%◌, List, [], ◌∷◌, ◌++◌, length, take, remove}
use Rattle.std.specs.Option.{option_to_list}
use Rattle.lg_probe.specs.Meaning.Order.{candidate}

-- the names left, in their order, once a random word has picked one of them
abbrev pub left_by : ℕ → List (List ℕ) → List (List ℕ)
left_by word others = remove others (word % length others)

-- the names that random words pick one after another, each among those left
abbrev pub picked_by : List ℕ → List (List ℕ) → List (List ℕ)
picked_by [] others = []
picked_by (word ∷ words) others = option_to_list (candidate word others) ++ picked_by words (left_by word others)

-- the names that the first k words pick, one by each word, until none is left
abbrev pub picked : ℕ → List ℕ → List (List ℕ) → List (List ℕ)
picked k words others = picked_by (take k words) others
