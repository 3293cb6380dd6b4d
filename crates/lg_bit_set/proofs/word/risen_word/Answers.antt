use Rattle.lg_bit_set.proofs.BitLaws.{risen_lowest, risen_above}
use Rattle.lg_bit_set.proofs.word.risen_word.Goals as goal

pub returns : goal.returns
returns c = record {
  lowest = risen_lowest c.args.word c.args.below;
  above = λ i within. risen_above c.args.word c.args.below i c.ranges.below.fits within;
}
