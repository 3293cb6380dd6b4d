use Rattle.lg_bit_set.proofs.BitLaws.{opened_below, opened_flags, opened_above}
use Rattle.lg_bit_set.proofs.word.opened_word.Goals as goal

pub returns : goal.returns
returns c = record {
  below = opened_below c.args.word c.args.place c.requires;
  at = opened_flags c.args.word c.args.place c.requires;
  above = opened_above c.args.word c.args.place c.requires;
}
