-- The known key that is nearest to one that is unknown (this project's choice).
use Rattle.std.specs.Prelude.{ℕ, ◌*◌, ◌==◌, Bool, ◌&&◌, nat_eq, nat_le, nat_lt, min, List, [], ◌∷◌, ◌++◌, codes, length}
use Rattle.std.specs.Prelude.{map, find, Option, None, if◌then◌else◌}
use Rattle.strsim.specs.Edits.{levenshtein_row}
use Rattle.lg_timing.specs.Meaning.Keys.{key_name}
use Rattle.lg_config.specs.Meaning.Keys.{any_keys, file_keys, texts_key}
use Rattle.lg_config.specs.Meaning.NodeKeys.{node_key_name, node_keys}

-- all known keys, in the order in which the table of docs/FORMATS.md has them
abbrev pub known_keys : List (List ℕ)
known_keys =
    codes "name" ∷ codes "address" ∷ codes "port" ∷ codes "dice"
    ∷ (map node_key_name node_keys
    ++ (codes "record"
    ∷ (any_keys ++ (codes "key_file" ∷ codes "group" ∷ texts_key ∷ map key_name file_keys))))

-- how many edits lead from one key to another: a byte is put in, taken out, or changed into another
unfoldable pub edits : List ℕ → List ℕ → ℕ
edits key known = levenshtein_row nat_eq key known (length known)

-- whether so many edits of a key are few: at most 3, and fewer than half of its bytes
abbrev pub most_edits : ℕ
most_edits = 3

abbrev pub are_few_edits : List ℕ → ℕ → Bool
are_few_edits key count = nat_le count most_edits && nat_lt (2 * count) (length key)

-- the fewest edits that lead from a key to one of some known keys, or to nothing
unfoldable pub fewest_edits : List ℕ → List (List ℕ) → ℕ
fewest_edits key [] = length key
fewest_edits key (known ∷ others) = min (edits key known) (fewest_edits key others)

-- the first of some known keys to which so many edits lead
unfoldable pub first_at : List ℕ → ℕ → List (List ℕ) → Option (List ℕ)
first_at key count known = find (λ other. edits key other == count) known

-- the one of some known keys to which the fewest edits lead, the first of those if there are several; None if they
-- aren't few
unfoldable pub nearest_of : List ℕ → List (List ℕ) → Option (List ℕ)
nearest_of key known =
    let fewest = fewest_edits key known in
    if are_few_edits key fewest then first_at key fewest known else None

-- the same of all known keys
unfoldable pub nearest_key : List ℕ → Option (List ℕ)
nearest_key key = nearest_of key known_keys
