-- A member whose address is found when its node starts: `address` is `auto` (this project's choice). Until then the IP
-- address of its configuration is 0.0.0.0.
use Rattle.std.specs.Prelude.{ℕ, ◌==◌, Bool, ◌&&◌, List, length, codes, Result, Ok, Err, if◌then◌else◌}
use Rattle.lg_rules.specs.declared.addr.Ip.{Ip}
use Rattle.lg_config.specs.declared.fault.FileFault.{FileFault}
use Rattle.lg_config.specs.declared.fault.FileFault.TheVariants as fault
use Rattle.lg_config.specs.declared.node.NodeConfig.{NodeConfig}
use Rattle.lg_config.specs.Meaning.Families.{unless_untold}

-- whether an address is to be found, and there is no seed by which it could be
abbrev pub is_unfindable : NodeConfig → Bool
is_unfindable node = node.auto && (length node.seeds.items == 0)

-- settings, or the fault that this is so
abbrev pub unless_unfindable : NodeConfig → Result NodeConfig FileFault
unless_unfindable node = if is_unfindable node then Err fault.Auto else Ok node

-- the reason of that fault, in words
abbrev pub auto_reason : List ℕ
auto_reason = codes "there are no seeds, and at least one is needed if address is \"auto\"\n"

-- settings with this IP address of the member's own
abbrev pub with_own_ip : Ip → NodeConfig → NodeConfig
with_own_ip ip node =
    record node { config = record node.config { addr = record node.config.addr { ip = ip } } }

-- the same, or the fault that packets of their version can't tell it
abbrev pub with_ip : Ip → NodeConfig → Result NodeConfig FileFault
with_ip ip node = unless_untold (with_own_ip ip node)
