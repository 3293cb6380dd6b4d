use Rattle.std.proofs.Common.{◌∙◌, arith, length-set}
use Rattle.lg_bit_set.proofs.SetFlags.{remove_bit, flags_long}
use Rattle.lg_bit_set.proofs.bit_set.BitSet.remove.Goals as goal

pub returns : goal.returns
returns c = record {
  flags = rw (← c.self.view_is, c.from.ensures)
      (remove_bit c.self.inside.words c.args.number c.self.invariant (omega arith));
  size = rw (c.from.ensures, remove_bit c.self.inside.words c.args.number c.self.invariant (omega arith))
      (length-set _ _ _ ∙ flags_long c.self.inside.words c.self.invariant);
}
