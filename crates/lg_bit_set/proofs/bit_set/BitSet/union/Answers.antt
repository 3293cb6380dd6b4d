use Rattle.lg_bit_set.proofs.SetFlags.{flags_long}
use Rattle.lg_bit_set.proofs.Union.{united_flags, AreWords-united}
use Rattle.lg_bit_set.proofs.bit_set.BitSet.union.Goals as goal

pub invariant_of-result : goal.invariant_of-result
invariant_of-result c = AreWords-united c.self.inside.words c.other.inside.words c.self.invariant c.other.invariant

pub returns : goal.returns
returns c = record {
  flags = rw (← c.self.view_is, ← c.other.view_is)
      (united_flags c.self.inside.words c.other.inside.words c.self.invariant c.other.invariant);
  size = flags_long _ (invariant_of-result c);
}
