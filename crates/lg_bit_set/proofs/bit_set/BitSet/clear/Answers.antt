use Rattle.lg_bit_set.proofs.SetFlags.{no_words}
use Rattle.lg_bit_set.proofs.bit_set.BitSet.clear.Goals as goal

pub returns : goal.returns
returns c = no_words
