use Rattle.lg_bit_set.proofs.BitLaws.{topped_below, topped_highest}
use Rattle.lg_bit_set.proofs.word.topped_word.Goals as goal

pub returns : goal.returns
returns c = record {
  below = λ i within. topped_below c.args.word c.args.above i within;
  highest = topped_highest c.args.word c.args.above c.requires;
}
