use Rattle.std.proofs.Common.{◌≡◌, map, take, drop, ◌++◌}
use Rattle.lg_membership.specs.Support.Rows.{row_without}
use Rattle.lg_membership.proofs.suspicions.forget_slots.Given as goal

abbrev pub invariant-loop-suspected : goal.invariant-loop-suspected
invariant-loop-suspected l =
    l.suspicions
    ≡ map (row_without l.slot l.name) (take l.suspected-index l.initial.suspicions)
    ++ drop l.suspected-index l.initial.suspicions
