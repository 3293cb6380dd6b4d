use Rattle.std.proofs.Common.{◌≤◌, length}
use Rattle.lg_parts_tests.proofs.timers.all_set.Given as goal

abbrev pub invariant-loop-row : goal.invariant-loop-row
invariant-loop-row l = length l.timers ≤ l.row-index
