-- Whether packets of a member's version can tell the member's own address (this project's choice). Those of versions 1
-- and 2 tell no IPv6 address, so the others would hear nothing of such a member.
use Rattle.std.specs.Prelude.{ℕ, Bool, List, ◌++◌, codes, Result, Ok, Err, if◌then◌else◌}
use Rattle.toml.specs.Data.{Members}
use Rattle.lg_rules.specs.Meaning.Version.{tells}
use Rattle.lg_timing.specs.declared.config.Config.{Config}
use Rattle.lg_timing.specs.Meaning.Config.{version_of}
use Rattle.lg_timing.specs.Meaning.Keys.{row_of}
use Rattle.lg_timing.specs.declared.keys.Key.TheVariants.{Wire}
use Rattle.lg_config.specs.declared.fault.FileFault.{FileFault}
use Rattle.lg_config.specs.declared.fault.FileFault.TheVariants as fault
use Rattle.lg_config.specs.declared.node.NodeConfig.{NodeConfig}
use Rattle.lg_config.specs.Meaning.Ranges.{given_text}
use Rattle.lg_config.specs.Meaning.Settings.{integer_at}

-- whether they can
abbrev pub tells_own : Config → Bool
tells_own c = tells (version_of c) c.addr

-- settings, or the fault that they can't
abbrev pub unless_untold : NodeConfig → Result NodeConfig FileFault
unless_untold node = if tells_own node.config then Ok node else Err fault.Family

-- the reason of that fault, in words
abbrev pub family_reason : Members → List ℕ
family_reason members =
    codes "wire is " ++ (given_text (integer_at (codes "wire") members) (row_of Wire).default
    ++ codes ", and has to be 3 for a member with an IPv6 address\n")
