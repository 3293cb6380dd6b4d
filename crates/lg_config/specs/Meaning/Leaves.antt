-- Whether the request POST /v1/leave may end a node (this project's choice). A file may turn it off, since who may ask
-- the status server may end the node by it.
use Rattle.std.specs.Prelude.{ℕ, Bool, true, false, List, codes}
use Rattle.std.specs.Prelude.{Option, Some, None, ok_or, option_and_then, Result, Ok, Err, if◌then◌else◌}
use Rattle.std.specs.Str.{bytes_eq}
use Rattle.toml.specs.Data.{Data, Members, get_member, as_str}
use Rattle.lg_config.specs.declared.fault.FileFault.{FileFault}
use Rattle.lg_config.specs.declared.fault.FileFault.TheVariants as fault
use Rattle.lg_config.specs.declared.node.NodeConfig.{NodeConfig}
use Rattle.lg_config.specs.Meaning.Keys.{leave_key}

-- whether a text says that something is on; None if it says neither `on` nor `off`
abbrev pub switch_of_text : List ℕ → Option Bool
switch_of_text text =
    if bytes_eq text (codes "on") then Some true else if bytes_eq text (codes "off") then Some false else None

-- the same of a value, if it is a text
abbrev pub switch_of_value : Data → Option Bool
switch_of_value value = option_and_then switch_of_text (as_str value)

-- whether a request may end the node, by the value at the key; it may if the key is missing
abbrev pub leave_of : Option Data → Result Bool FileFault
leave_of None = Ok true
leave_of (Some value) = ok_or (switch_of_value value) fault.Leave

-- the same of a document
abbrev pub leave_in : Members → Result Bool FileFault
leave_in members = leave_of (get_member leave_key members)

-- settings with that, or the fault of the value
abbrev pub with_leave : NodeConfig → Result Bool FileFault → Result NodeConfig FileFault
with_leave node (Ok leave) = Ok (record node { leave = leave })
with_leave node (Err found) = Err found
