use Rattle.std.proofs.Common.{◌≡◌, map, take, drop, ◌++◌}
use Rattle.lg_rules.specs.Support.Slots.{moved_down}
use Rattle.lg_rules.proofs.slots.move_down.Given as goal

abbrev pub invariant-loop-index : goal.invariant-loop-index
invariant-loop-index l =
    l.indexes ≡ map (moved_down l.at) (take l.index-index l.initial.indexes) ++ drop l.index-index l.initial.indexes
