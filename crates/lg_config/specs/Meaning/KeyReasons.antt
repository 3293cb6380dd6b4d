-- The reasons of keys that are wrong, in words.
use Rattle.std.specs.Prelude.{ℕ, List, ◌++◌, codes, Option, Some, None, if◌then◌else◌}
use Rattle.toml.specs.Data.{Data, Members, no_members, member, type_name}
use Rattle.lg_text.specs.Meaning.Lines.{newline}
use Rattle.lg_config.specs.declared.keys.Kind.{Kind}
use Rattle.lg_config.specs.declared.keys.Kind.TheVariants.{Text, Number, Texts, Any}
use Rattle.lg_config.specs.Meaning.Keys.{is_of_kind, kind_of_key}
use Rattle.lg_config.specs.Meaning.NearestKeys.{nearest_key}
use Rattle.lg_config.specs.Meaning.Quoting.{quoted}

-- the TOML type that a kind of key wants
abbrev pub wanted_type : Kind → List ℕ
wanted_type Text = codes "string"
wanted_type Number = codes "integer"
wanted_type Texts = codes "array of strings"
wanted_type Any = codes "any"

-- the reason of a key whose value isn't of the type that it wants
abbrev pub type_reason : List ℕ → List ℕ → Data → List ℕ
type_reason wanted key value =
    key ++ (codes " is of type " ++ (type_name value
    ++ (codes ", and has to be of type " ++ (wanted ++ newline))))

-- the reason of a key that is unknown, by the known key that is nearest to it, if one is near
abbrev pub unknown_with : List ℕ → Option (List ℕ) → List ℕ
unknown_with key None = codes "the key " ++ (quoted key ++ codes " is unknown\n")
unknown_with key (Some nearest) =
    codes "the key " ++ (quoted key ++ (codes " is unknown, and the nearest is \"" ++ (nearest ++ codes "\"\n")))

abbrev pub unknown_reason : List ℕ → List ℕ
unknown_reason key = unknown_with key (nearest_key key)

-- the reason of a key that is wrong; None stands for the kind of one that is unknown
abbrev pub wrong_key_reason : Option Kind → List ℕ → Data → List ℕ
wrong_key_reason None key value = unknown_reason key
wrong_key_reason (Some kind) key value = type_reason (wanted_type kind) key value

-- the reason of a document with wrong keys: of the first that is wrong, in the order of their bytes; or the name is
-- missing
abbrev pub key_reason : Members → List ℕ
key_reason no_members = codes "the key name is missing\n"
key_reason (member key value others) =
    if is_of_kind (kind_of_key key) value then key_reason others else wrong_key_reason (kind_of_key key) key value
