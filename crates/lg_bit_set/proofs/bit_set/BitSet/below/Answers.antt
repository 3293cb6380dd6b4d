use Rattle.std.proofs.Common.{◌≡◌, ◌-◌, arith}
use Rattle.lg_bit_set.proofs.Below.{below_flags}
use Rattle.lg_bit_set.proofs.bit_set.BitSet.below.Goals as goal

pub returns : goal.returns
returns c =
    let whole : c.args.count ≡ c.args.count - 0 = omega arith in
    below_flags c.args.count c.lowest_bits.result c.lowest_bits-2.result c.lowest_bits-3.result c.lowest_bits-4.result
    (rw whole at c.lowest_bits.ensures) (rw c.saturating_sub.ensures at c.lowest_bits-2.ensures)
    (rw c.saturating_sub-2.ensures at c.lowest_bits-3.ensures)
    (rw c.saturating_sub-3.ensures at c.lowest_bits-4.ensures)
