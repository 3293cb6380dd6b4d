use Rattle.std.proofs.Common.{arith, sym}
use Rattle.std.proofs.lemmas.Nat.Bits.{shr_and_one}
use Rattle.lg_bit_set.proofs.SetFlags.{get_or-flags_of, flags_long}
use Rattle.lg_bit_set.proofs.bit_set.BitSet.contains.Goals as goal

pub returns : goal.returns
returns c = record {
  flag = rw (← c.self.view_is, c.from.ensures, shr_and_one)
      (sym (get_or-flags_of c.self.inside.words c.args.number (rw c.self.invariant.four (omega arith))));
  size = rw (← c.self.view_is) (flags_long c.self.inside.words c.self.invariant);
}
