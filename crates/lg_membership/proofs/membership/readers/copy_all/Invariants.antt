use Rattle.std.proofs.Common.{◌≡◌, take}
use Rattle.lg_membership.proofs.membership.readers.copy_all.Given as goal

abbrev pub invariant-loop-index : goal.invariant-loop-index
invariant-loop-index l = l.row.items ≡ take l.index l.members.table
