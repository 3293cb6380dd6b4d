use Rattle.lg_bit_set.proofs.SetFlags.{count_words, flags_long}
use Rattle.lg_bit_set.proofs.bit_set.BitSet.len.Goals as goal

pub returns : goal.returns
returns c = record {
  count = rw (← c.self.view_is) (count_words c.self.inside.words c.self.invariant);
  size = rw (← c.self.view_is) (flags_long c.self.inside.words c.self.invariant);
}
