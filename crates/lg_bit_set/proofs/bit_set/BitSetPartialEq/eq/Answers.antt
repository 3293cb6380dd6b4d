use Rattle.lg_bit_set.proofs.SameSets.{same_sets}
use Rattle.lg_bit_set.proofs.bit_set.BitSetPartialEq.eq.Goals as goal

pub returns : goal.returns
returns c =
    rw (← c.self.view_is, ← c.other.view_is)
    (same_sets c.self.inside.words c.other.inside.words c.self.invariant c.other.invariant c.eq.result c.eq.ensures)
