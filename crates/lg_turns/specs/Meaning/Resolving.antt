-- Which addresses a node asks once it has learned those of the hosts among its seeds (this project's choice).
use Rattle.std.specs.Prelude.{Bool, not, List, ◌++◌}
use Rattle.std.specs.List.{filter}
use Rattle.lg_rules.specs.declared.addr.Addr.{Addr}
use Rattle.lg_rules.specs.Meaning.View.{is_same_addr}
use Rattle.lg_turns.specs.declared.plan.Plan.{Plan}

-- whether an address isn't this member's own
abbrev pub is_elsewhere : Addr → Addr → Bool
is_elsewhere own addr = not (is_same_addr addr own)

-- The plan of a loop that has learned which addresses the hosts among the seeds have. It asks the seeds that were given
-- by their addresses, and then those that were found, in their order. It doesn't ask this member itself, so that a
-- host's name may have the addresses of a whole group.
abbrev pub learning : Plan → List Addr → Plan
learning plan found =
    record plan { seeds = record { items = plan.fixed.items ++ filter (is_elsewhere plan.own) found } }
