use Rattle.std.proofs.Common.{◌+◌, ◌≤◌}
use Rattle.lg_bit_set.specs.Support.Steps.{AreRisen}
use Rattle.lg_bit_set.proofs.bit_set.BitSet.open_words.Given as goal

abbrev pub invariant-words : goal.invariant-words
invariant-words l = (l.at + 1 ≤ l.i) × AreRisen l.initial.self-inside.words l.self-inside.words l.i
