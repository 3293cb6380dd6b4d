-- The number of a node's first probe or relay (this project's choice). It follows from when the node starts and from
-- its dice, so that an Ack that was recorded before a start fits none of the probes behind it, but by chance.
use Rattle.std.specs.Prelude.{ℕ, ◌+◌, ◌%◌}
use Rattle.lg_timing.specs.declared.keys.Key.TheVariants.{First}
use Rattle.lg_timing.specs.Meaning.Keys.{row_of, with_number}
use Rattle.lg_config.specs.declared.node.NodeConfig.{NodeConfig}

-- By the system's time in nanoseconds and the number that the dice start from: the sum of both is divided by how many
-- numbers there are, and one is added to what is left.
abbrev pub first_number : ℕ → ℕ → ℕ
first_number time dice = (time + dice) % (row_of First).most + 1

-- what a file says, for a node that starts at this time
abbrev pub started_at : ℕ → NodeConfig → NodeConfig
started_at time n = record n { config = with_number First (first_number time n.dice) n.config }
