use Rattle.std.proofs.Common.{◌≡◌, ◌∙◌, sym, arith}
use Rattle.std.proofs.lemmas.Bool.{eqb-true}
use Rattle.lg_bit_set.specs.Meaning.Flags.{count_set}
use Rattle.lg_bit_set.proofs.NoFlags.{closed_none}
use Rattle.lg_bit_set.proofs.bit_set.BitSet.close.Goals as goal

pub returns-else-not-is_empty-clause-flags : goal.returns-else-not-is_empty-clause-flags
returns-else-not-is_empty-clause-flags c =
    let none : count_set c.args.self.now ≡ 0 = eqb-true (count_set c.args.self.now) 0 (sym c.is_empty.ensures.empty ∙ c.if-not-is_empty.false) in
    sym (closed_none c.args.self.now c.args.number none
    (omega (arith, c.is_empty.ensures.size, c.ranges.number.fits)))

pub returns-else-not-is_empty-clause-size : goal.returns-else-not-is_empty-clause-size
returns-else-not-is_empty-clause-size c = c.is_empty.ensures.size
