use Rattle.std.proofs.Common.{◌≡◌, ◌++◌, take}
use Rattle.lg_probe.proofs.names.push_all.Given as goal

abbrev pub invariant-loop-name : goal.invariant-loop-name
invariant-loop-name g l = l.row.items ≡ l.initial.row.items ++ take l.name-index l.names
