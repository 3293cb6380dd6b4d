-- The reasons of a value that says neither that a request may end the node nor that it may not, in words. A document
-- that lacks the key hasn't the fault of its value.
use Rattle.std.specs.Prelude.{ℕ, List, ◌++◌, codes, Option, Some, None}
use Rattle.toml.specs.Data.{Data, Members, get_member, as_str}
use Rattle.lg_config.specs.Meaning.KeyReasons.{type_reason}
use Rattle.lg_config.specs.Meaning.Keys.{leave_key}
use Rattle.lg_config.specs.Meaning.Quoting.{quoted}

-- the reason of a value that is neither on nor off, by the text that it is, if it is one
abbrev pub no_switch_reason : Data → Option (List ℕ) → List ℕ
no_switch_reason value None = type_reason (codes "string") leave_key value
no_switch_reason value (Some text) =
    codes "leave is " ++ (quoted text ++ codes ", and has to be \"on\" or \"off\"\n")

-- the same, by the value at the key
abbrev pub leave_value_reason : Option Data → List ℕ
leave_value_reason None = codes "the key leave is missing\n"
leave_value_reason (Some value) = no_switch_reason value (as_str value)

abbrev pub leave_reason : Members → List ℕ
leave_reason members = leave_value_reason (get_member leave_key members)
