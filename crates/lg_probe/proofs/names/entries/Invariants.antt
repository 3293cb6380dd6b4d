use Rattle.std.proofs.Common.{◌≡◌, take}
use Rattle.lg_bit_set.specs.Meaning.Flags.{entries_in}
use Rattle.lg_probe.proofs.names.entries.Given as goal

abbrev pub invariant-loop-number : goal.invariant-loop-number
invariant-loop-number l = l.names.items ≡ entries_in l.numbers (take l.number l.row)
