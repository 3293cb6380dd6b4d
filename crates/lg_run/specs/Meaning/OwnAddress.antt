-- The address of a node that its configuration leaves to be found (this project's choice).
use Rattle.std.specs.Prelude.{◌≡◌, ◌⊎◌, Bool, true, false, Ok, Err}
use Rattle.lg_rules.specs.declared.addr.Ip.{Ip}
use Rattle.lg_text.specs.Meaning.Reporting.{Reported, Reports}
use Rattle.lg_config.specs.declared.node.NodeConfig.{NodeConfig}
use Rattle.lg_config.specs.Meaning.Finding.{with_ip}
use Rattle.lg_run.specs.declared.own_address.NoAddress.{NoAddress}
use Rattle.lg_run.specs.declared.own_address.NoAddress.TheVariants.{Unfound, Fault}
use Rattle.lg_run.specs.Meaning.Words.{auto_line}

-- A configuration as it is, or with some IP address of its own, which was told in a line. If memory for that line was
-- refused, there is none. Which address a machine has no contract can say.
abbrev pub IsFoundIf : Bool → NodeConfig → (reported reports : Reported) → NodeConfig → Type 0
IsFoundIf false n reported reports found = (found ≡ n) × (reports ≡ reported)
IsFoundIf true n reported reports found =
    (ip : Ip) × (with_ip ip n ≡ Ok found)
    × ((reports ≡ reported) ⊎ Reports reported reports (auto_line found.config.addr))

-- The configuration with which a node runs: its address is found, if it is to be found.
abbrev pub HasOwnAddress : NodeConfig → (reported reports : Reported) → NodeConfig → Type 0
HasOwnAddress n reported reports found = IsFoundIf n.auto n reported reports found

-- Its address is to be found, and no seed has one towards which this machine has one. Or the configuration doesn't go
-- with some address that was found.
abbrev pub LacksOwnAddress : NodeConfig → NoAddress → Type 0
LacksOwnAddress n Unfound = n.auto ≡ true
LacksOwnAddress n (Fault fault) = (n.auto ≡ true) × ((ip : Ip) × (with_ip ip n ≡ Err fault))
