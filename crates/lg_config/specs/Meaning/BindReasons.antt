-- The reasons of a value that says no place for a socket, in words. A document that lacks the key hasn't the fault of
-- its value.
use Rattle.std.specs.Prelude.{ℕ, List, ◌++◌, codes, Option, Some, None}
use Rattle.toml.specs.Data.{Data, Members, get_member, as_str}
use Rattle.lg_config.specs.Meaning.KeyReasons.{type_reason}
use Rattle.lg_config.specs.Meaning.Keys.{bind_key}
use Rattle.lg_config.specs.Meaning.Quoting.{quoted}

-- the reason of a value that is no address, by the text that it is, if it is one
abbrev pub no_place_reason : Data → Option (List ℕ) → List ℕ
no_place_reason value None = type_reason (codes "string") bind_key value
no_place_reason value (Some text) =
    codes "bind is " ++ (quoted text
    ++ codes ", and has to be A.B.C.D or A.B.C.D:PORT, A to D without leading zeros, or IPv6\n")

-- the same, by the value at the key
abbrev pub bind_value_reason : Option Data → List ℕ
bind_value_reason None = codes "the key bind is missing\n"
bind_value_reason (Some value) = no_place_reason value (as_str value)

abbrev pub bind_reason : Members → List ℕ
bind_reason members = bind_value_reason (get_member bind_key members)
