-- What a body spells as JSON (RFC 8259), and what an object has at a key.
use Rattle.std.specs.Prelude.{ℕ, Bool, List, [], ◌∷◌, Option, Some, None, option_and_then, if◌then◌else◌}
use Rattle.std.specs.Str.{is_utf8}
use Rattle.serde_json.specs.Data.{Data, Items, item, no_items}
use Rattle.serde_json.specs.Find.{as_array, as_bool, as_number, as_str, as_u64, get}
use Rattle.serde_json.specs.Read.{read}
use Rattle.lg_text.specs.Meaning.Names.{member_name_of}
use Rattle.lg_text.specs.Meaning.Steps.{◌>>=◌}

-- what the bytes of a body spell, if they are UTF-8 and JSON
abbrev pub json_of : List ℕ → Option Data
json_of body = if is_utf8 body then read body else None

-- what an object has at a key: a text, a name, a whole number that isn't negative, a truth, the elements of an array;
-- none if there is no such value
abbrev pub text_at_key : List ℕ → Data → Option (List ℕ)
text_at_key key value = option_and_then as_str (get key value)

abbrev pub name_at_key : List ℕ → Data → Option (List ℕ)
name_at_key key value = option_and_then member_name_of (text_at_key key value)

abbrev pub natural_at_key : List ℕ → Data → Option ℕ
natural_at_key key value = option_and_then as_u64 (option_and_then as_number (get key value))

abbrev pub truth_at_key : List ℕ → Data → Option Bool
truth_at_key key value = option_and_then as_bool (get key value)

abbrev pub rows_at_key : List ℕ → Data → Option Items
rows_at_key key value = option_and_then as_array (get key value)

-- what is read of each element of an array, in order; none if nothing is read of one of them
abbrev pub each_read : {A : Type 0} → (Data → Option A) → Items → Option (List A)
each_read of_one no_items = Some []
each_read of_one (item first others) = do
  x ← of_one first
  xs ← each_read of_one others
  Some (x ∷ xs)
