-- Groups (this project's choice): members of different groups, and members that have none, hear nothing of each other.
-- What a member of a group sends names its group, which only packets of version three do.
use Rattle.std.specs.Prelude.{ℕ, Bool, true, false, not, ◌&&◌, List, Option, Some, None, is_some}
use Rattle.lg_rules.specs.declared.version.Version.{Version}
use Rattle.lg_rules.specs.declared.version.Version.TheVariants.{One, Two, Three}
use Rattle.lg_rules.specs.Meaning.Rows.{name_cmp, is_same}
use Rattle.lg_timing.specs.declared.config.Config.{Config}
use Rattle.lg_packet.specs.declared.packet.Packet.{Packet}

-- the group that a member belongs to, if it has one: that of its configuration
abbrev pub own_group : Option Config → Option (List ℕ)
own_group None = None
own_group (Some opening) = opening.group

-- whether packets of a version can name a group
abbrev pub tells_group : Version → Bool
tells_group One = false
tells_group Two = false
tells_group Three = true

-- whether a packet that has this group, or none, names that one
abbrev pub names_group : Option (List ℕ) → List ℕ → Bool
names_group None group = false
names_group (Some other) group = is_same name_cmp other group

-- Whether a packet is of a member's group. For a member of a group these are the packets of version three that name it.
-- For a member that has none these are the packets that name none, whatever their version is.
abbrev pub is_of_group : Option (List ℕ) → Packet → Bool
is_of_group None packet = not (is_some packet.group)
is_of_group (Some group) packet = names_group packet.group group && tells_group packet.version
