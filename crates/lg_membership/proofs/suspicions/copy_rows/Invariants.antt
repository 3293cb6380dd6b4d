use Rattle.std.proofs.Common.{◌≡◌, take}
use Rattle.lg_membership.proofs.suspicions.copy_rows.Given as goal

abbrev pub invariant-loop-suspected : goal.invariant-loop-suspected
invariant-loop-suspected l = l.copies.items ≡ take l.suspected-index l.rows
