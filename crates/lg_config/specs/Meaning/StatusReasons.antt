-- The reasons of the faults of the status server, in words. A document that lacks a key hasn't the fault of its value.
use Rattle.std.specs.Prelude.{ℕ, List, [], ◌++◌, codes, Option, Some, None, unwrap_or}
use Rattle.toml.specs.Data.{Data, Members, get_member, as_str}
use Rattle.lg_config.specs.Meaning.KeyReasons.{type_reason}
use Rattle.lg_config.specs.Meaning.Keys.{status_key, open_key}
use Rattle.lg_config.specs.Meaning.Quoting.{quoted}
use Rattle.lg_config.specs.Meaning.Settings.{text_at}

-- the reason of a value that is no address with its port, by the text that it is, if it is one
abbrev pub no_address_reason : Data → Option (List ℕ) → List ℕ
no_address_reason value None = type_reason (codes "string") status_key value
no_address_reason value (Some text) =
    codes "status is " ++ (quoted text
    ++ codes ", and has to be A.B.C.D:PORT, A to D without leading zeros, or [IPv6]:PORT\n")

-- the same, by the value at the key
abbrev pub status_value_reason : Option Data → List ℕ
status_value_reason None = codes "the key status is missing\n"
status_value_reason (Some value) = no_address_reason value (as_str value)

abbrev pub status_reason : Members → List ℕ
status_reason members = status_value_reason (get_member status_key members)

-- the reason of a value that is no boolean, by the value at the key
abbrev pub open_value_reason : Option Data → List ℕ
open_value_reason None = codes "the key status_open is missing\n"
open_value_reason (Some value) = type_reason (codes "boolean") open_key value

abbrev pub open_reason : Members → List ℕ
open_reason members = open_value_reason (get_member open_key members)

-- the text of the server's address
abbrev pub status_addr_text : Members → List ℕ
status_addr_text members = unwrap_or (text_at status_key members) []

-- the reason of an address that isn't loopback
abbrev pub loopback_reason : Members → List ℕ
loopback_reason members =
    codes "status is " ++ (quoted (status_addr_text members)
    ++ codes ", and has to be in 127.0.0.0/8 or ::1 if status_open isn't true\n")
