use Rattle.std.proofs.Common.{◌∙◌, ap, sym}
use Rattle.lg_bit_set.specs.Meaning.Flags.{numbers_of}
use Rattle.lg_bit_set.proofs.Halves.{first_out}
use Rattle.lg_bit_set.proofs.bit_set.BitSet.pop_first.Goals as goal

pub returns-clause-left : goal.returns-clause-left
returns-clause-left c =
    ap numbers_of c.remove.ensures.flags
    ∙ first_out c.args.self.now c.in_ok-number.number (sym c.first.ensures ∙ c.in_ok-number.was)
