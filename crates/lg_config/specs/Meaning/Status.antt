-- The status server of a node: the address at which it listens, and whether that may be one that isn't loopback (this
-- project's choice). Its answers have no authentication, so a file has to allow such an address.
use Rattle.std.specs.Prelude.{Bool, true, false, ◌||◌}
use Rattle.std.specs.Prelude.{Option, Some, None, ok_or, option_and_then, Result, Ok, Err, if◌then◌else◌}
use Rattle.std.specs.Option.{option_map}
use Rattle.toml.specs.Data.{Data, Members, get_member, as_str, as_bool}
use Rattle.lg_rules.specs.declared.addr.Addr.{Addr}
use Rattle.lg_rules.specs.Meaning.Addr.{is_loopback}
use Rattle.lg_config.specs.declared.fault.FileFault.{FileFault}
use Rattle.lg_config.specs.declared.fault.FileFault.TheVariants as fault
use Rattle.lg_config.specs.declared.node.NodeConfig.{NodeConfig}
use Rattle.lg_config.specs.Meaning.Keys.{status_key, open_key}
use Rattle.lg_config.specs.Meaning.Texts.{address_of}

-- the address with its port that a value spells, if it is a text
abbrev pub address_of_value : Data → Option Addr
address_of_value value = option_and_then address_of (as_str value)

-- where the server listens, by the value at its key; there is no server if the key is missing
abbrev pub status_addr_of : Option Data → Result (Option Addr) FileFault
status_addr_of None = Ok None
status_addr_of (Some value) = ok_or (option_map (λ addr. Some addr) (address_of_value value)) fault.Status

-- whether it may listen at an address that isn't loopback, by the value at that key; it may not if the key is missing
abbrev pub open_of : Option Data → Result Bool FileFault
open_of None = Ok false
open_of (Some value) = ok_or (as_bool value) fault.StatusOpen

-- the same of a document
abbrev pub status_addr_in : Members → Result (Option Addr) FileFault
status_addr_in members = status_addr_of (get_member status_key members)

abbrev pub open_in : Members → Result Bool FileFault
open_in members = open_of (get_member open_key members)

-- whether a server may listen there, by whether it may listen at an address that isn't loopback
abbrev pub may_listen : Option Addr → Bool → Bool
may_listen None is_open = true
may_listen (Some addr) is_open = is_open || is_loopback addr.ip

-- Settings with what their document says of the server. Or the first fault: that of its address, that of whether this
-- may be one that isn't loopback, or that the server may not listen there.
abbrev pub with_status :
    NodeConfig → Result (Option Addr) FileFault → Result Bool FileFault → Result NodeConfig FileFault
with_status node (Err found) is_open = Err found
with_status node (Ok status) (Err found) = Err found
with_status node (Ok status) (Ok is_open) =
    if may_listen status is_open then Ok (record node { status = status; status_open = is_open })
    else Err fault.StatusNotLoopback
