-- The group of members that a node's member belongs to (this project's choice). Whether it may belong to one is said by
-- `can_name_group` of `lg_timing`.
use Rattle.std.specs.Prelude.{ℕ, List, codes, Option, Some, None, ok_or, Result, Ok, Err}
use Rattle.std.specs.Option.{option_map}
use Rattle.toml.specs.Data.{Members}
use Rattle.lg_timing.specs.declared.config.ConfigFault.TheVariants.{Group}
use Rattle.lg_config.specs.declared.fault.FileFault.{FileFault}
use Rattle.lg_config.specs.declared.fault.FileFault.TheVariants as fault
use Rattle.lg_config.specs.declared.node.NodeConfig.{NodeConfig}
use Rattle.lg_config.specs.Meaning.Settings.{text_at}
use Rattle.lg_config.specs.Meaning.Texts.{member_name_of}

-- the group that a text names, by the text at its key: it is a name, and there is no group if the key is missing
abbrev pub group_of : Option (List ℕ) → Result (Option (List ℕ)) FileFault
group_of None = Ok None
group_of (Some text) = ok_or (option_map (λ name. Some name) (member_name_of text)) (fault.Config Group)

-- the same of a document
abbrev pub group_in : Members → Result (Option (List ℕ)) FileFault
group_in members = group_of (text_at (codes "group") members)

-- settings with that group, or its fault
abbrev pub with_group : NodeConfig → Result (Option (List ℕ)) FileFault → Result NodeConfig FileFault
with_group node (Ok group) = Ok (record node { config = record node.config { group = group } })
with_group node (Err found) = Err found
