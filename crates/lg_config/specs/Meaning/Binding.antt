-- Where a node's socket for datagrams is bound (this project's choice). The others are told the member's address and
-- port. A file may have the socket bound elsewhere: to all addresses of the machine, or to one that only the machine
-- knows, as behind a translator of addresses.
use Rattle.std.specs.Prelude.{ℕ, Option, Some, None, ok_or, option_and_then, unwrap_or, Result, Ok, Err}
use Rattle.std.specs.Option.{option_map}
use Rattle.toml.specs.Data.{Data, Members, get_member, as_str}
use Rattle.lg_rules.specs.declared.addr.Addr.{Addr}
use Rattle.lg_config.specs.declared.fault.FileFault.{FileFault}
use Rattle.lg_config.specs.declared.fault.FileFault.TheVariants as fault
use Rattle.lg_config.specs.declared.node.NodeConfig.{NodeConfig}
use Rattle.lg_config.specs.Meaning.Keys.{bind_key}
use Rattle.lg_config.specs.Meaning.Texts.{address_with_port}

-- the place that a value spells, if it is a text; it has this port, the member's, if it gives none
abbrev pub bind_of_value : ℕ → Data → Option Addr
bind_of_value port value = option_and_then (address_with_port port) (as_str value)

-- where a document has the socket bound, by the value at the key; it says nothing of it if the key is missing
abbrev pub bind_of : ℕ → Option Data → Result (Option Addr) FileFault
bind_of port None = Ok None
bind_of port (Some value) = ok_or (option_map (λ addr. Some addr) (bind_of_value port value)) fault.Bind

-- the same of a document
abbrev pub bind_in : ℕ → Members → Result (Option Addr) FileFault
bind_in port members = bind_of port (get_member bind_key members)

-- settings with that place, or its fault
abbrev pub with_bind : NodeConfig → Result (Option Addr) FileFault → Result NodeConfig FileFault
with_bind node (Ok bind) = Ok (record node { bind = bind })
with_bind node (Err found) = Err found

-- where the socket is bound: at that place, or else at the member's address and port
abbrev pub bound_at : NodeConfig → Addr
bound_at node = unwrap_or node.bind node.config.addr
