use Rattle.std.proofs.Common.{◌∙◌, arith}
use Rattle.std.proofs.lemmas.Nat.Bits.{bit_at_above}
use Rattle.lg_bit_set.proofs.BitLaws.{closed_below, closed_above}
use Rattle.lg_bit_set.proofs.word.closed_word.Goals as goal

pub returns : goal.returns
returns c = record {
  below = closed_below c.args.word c.args.place c.requires;
  above = λ i past within. closed_above c.args.word c.args.place c.requires i past (omega arith);
  highest =
      closed_above c.args.word c.args.place c.requires 63 (omega arith) (omega arith)
      ∙ bit_at_above c.args.word 64 64 c.ranges.word.fits (omega arith);
}
