use Rattle.std.proofs.Common.{◌≡◌, ◌≤◌, length, take}
use Rattle.std.specs.List.{filter}
use Rattle.lg_turns.specs.Meaning.Resolving.{is_elsewhere}
use Rattle.lg_turns.proofs.plan.others_among.Given as goal

-- those of the addresses so far
abbrev pub invariant-loop-addr : goal.invariant-loop-addr
invariant-loop-addr l =
    record {
      so_far : l.others.items ≡ filter (is_elsewhere l.own) (take l.addr-index l.found);
      few : length l.others.items ≤ l.addr-index;
    }
