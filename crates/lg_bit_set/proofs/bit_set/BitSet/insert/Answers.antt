use Rattle.std.proofs.Common.{◌/◌, arith}
use Rattle.std.proofs.lemmas.Nat.{or_lt}
use Rattle.lg_bit_set.proofs.SetFlags.{insert_bit, AreWords-set, flags_long}
use Rattle.lg_bit_set.proofs.bit_set.BitSet.insert.Goals as goal

pub invariant_of-self : goal.invariant_of-self
invariant_of-self c =
    rw c.from.ensures
    (AreWords-set c.self.inside.words (c.args.number / 64) _ c.self.invariant (omega arith)
    (or_lt 64 _ _ (c.self.invariant.fit (c.args.number / 64)) (omega arith)))

pub returns : goal.returns
returns c = record {
  flags = rw (← c.self.view_is, c.from.ensures)
      (insert_bit c.self.inside.words c.args.number c.self.invariant (omega arith));
  size = flags_long _ (invariant_of-self c);
}
