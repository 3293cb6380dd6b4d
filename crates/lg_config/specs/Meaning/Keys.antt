-- The keys of a configuration file, and the TOML type of each key's value.
use Rattle.std.specs.Prelude.{ℕ, Bool, true, false, ◌&&◌, List, [], ◌∷◌, codes, Option, Some, None, is_some, find}
use Rattle.std.specs.Prelude.{if◌then◌else◌}
use Rattle.std.specs.List.{filter, list_any}
use Rattle.std.specs.Str.{bytes_eq}
use Rattle.toml.specs.Data.{Data, Items, no_items, item, Members, no_members, member, get_member}
use Rattle.toml.specs.Data.{as_str, as_integer, as_array}
use Rattle.lg_timing.specs.Meaning.Keys.{has_key_name, keys}
use Rattle.lg_timing.specs.declared.keys.Key.{Key}
use Rattle.lg_timing.specs.declared.keys.Key.TheVariants.{First}
use Rattle.lg_config.specs.Meaning.NodeKeys.{node_key_named}
use Rattle.lg_config.specs.declared.keys.Kind.{Kind}
use Rattle.lg_config.specs.declared.keys.Kind.TheVariants.{Text, Number, Texts, Any}

-- the keys whose value is a text
abbrev pub text_keys : List (List ℕ)
text_keys = codes "name" ∷ codes "address" ∷ codes "record" ∷ codes "key_file" ∷ codes "group" ∷ []

-- the keys whose value is a whole number, besides those of the member's numbers and the node's own
abbrev pub number_keys : List (List ℕ)
number_keys = codes "port" ∷ codes "dice" ∷ []

-- the key whose value is an array of texts
abbrev pub texts_key : List ℕ
texts_key = codes "seeds"

-- the keys of the status server: of its address, and of whether that may be one that isn't loopback
abbrev pub status_key : List ℕ
status_key = codes "status"

abbrev pub open_key : List ℕ
open_key = codes "status_open"

-- the key of whether a request may end the node
abbrev pub leave_key : List ℕ
leave_key = codes "leave"

-- the key of where the socket for datagrams is bound
abbrev pub bind_key : List ℕ
bind_key = codes "bind"

-- the keys of which a value of another type is a fault of its own
abbrev pub any_keys : List (List ℕ)
any_keys = status_key ∷ open_key ∷ leave_key ∷ bind_key ∷ []

-- whether a file may give a number of the member's: it may give all but the first number of a probe
abbrev pub is_file_key : Key → Bool
is_file_key First = false
is_file_key key = true

-- the keys of the numbers of the member's that a file may give, in the order in which they are judged
abbrev pub file_keys : List Key
file_keys = filter is_file_key keys

-- the one of them with a name, if there is one
unfoldable pub file_key_named : List ℕ → Option Key
file_key_named word = find (has_key_name word) file_keys

-- whether a key is one of these
abbrev pub is_listed : List (List ℕ) → List ℕ → Bool
is_listed keys key = list_any (λ known. bytes_eq key known) keys

-- the kind of a key's value; None if the key is unknown
unfoldable pub kind_of_key : List ℕ → Option Kind
kind_of_key key =
    if is_listed text_keys key then Some Text
    else if is_listed number_keys key then Some Number
    else if bytes_eq key texts_key then Some Texts
    else if is_listed any_keys key then Some Any
    else if is_some (file_key_named key) then Some Number
    else if is_some (node_key_named key) then Some Number
    else None

abbrev pub is_text : Data → Bool
is_text value = is_some (as_str value)

abbrev pub is_whole_number : Data → Bool
is_whole_number value = is_some (as_integer value)

-- whether each element of an array is a text
abbrev pub are_texts : Items → Bool
are_texts no_items = true
are_texts (item value others) = is_text value && are_texts others

-- whether a value is an array of texts; None stands for a value that is no array
abbrev pub is_array_of_texts : Option Items → Bool
is_array_of_texts None = false
is_array_of_texts (Some items) = are_texts items

-- whether a value is of the kind that its key wants
abbrev pub is_of_kind : Option Kind → Data → Bool
is_of_kind None value = false
is_of_kind (Some Text) value = is_text value
is_of_kind (Some Number) value = is_whole_number value
is_of_kind (Some Texts) value = is_array_of_texts (as_array value)
is_of_kind (Some Any) value = true

-- whether each key is known, and its value is of its kind
abbrev pub are_known : Members → Bool
are_known no_members = true
are_known (member key value others) = is_of_kind (kind_of_key key) value && are_known others

-- whether that is so, and the name isn't missing
abbrev pub are_right_keys : Members → Bool
are_right_keys members = is_some (get_member (codes "name") members) && are_known members
