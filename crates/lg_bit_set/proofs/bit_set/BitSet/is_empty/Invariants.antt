use Rattle.std.proofs.Common.{◌≡◌, ℕ, ◌<◌, get_or}
use Rattle.lg_bit_set.proofs.bit_set.BitSet.is_empty.Given as goal

abbrev pub invariant-loop-word : goal.invariant-loop-word
invariant-loop-word l = (k : ℕ) → k < l.word-index → get_or l.word-items k 0 ≡ 0
