use Rattle.std.proofs.Common.{◌∙◌, ap, length}
use Rattle.lg_bit_set.proofs.SetFlags.{flags_long}
use Rattle.lg_bit_set.proofs.Without.{without_words, length-flags_without}
use Rattle.lg_bit_set.proofs.bit_set.BitSet.without.Goals as goal

pub returns : goal.returns
returns c =
    let flags = without_words c.self.inside.words c.other.inside.words c.self.invariant c.other.invariant in
    record {
      flags = rw (← c.self.view_is, ← c.other.view_is) flags;
      size = ap length flags ∙ length-flags_without _ _ ∙ flags_long c.self.inside.words c.self.invariant;
    }
