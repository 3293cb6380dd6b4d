use Rattle.std.proofs.Common.{◌≡◌, ◌<◌, arith, w64}
use Rattle.std.proofs.lemmas.Nat.Bits.{bit_at-trailing_zeros}
use Rattle.lg_bit_set.specs.Support.Steps.{IsLeftOver}
use Rattle.lg_bit_set.proofs.NthLaws.{IsLeftOver-more, IsLeftOver-some, IsLeftOver-end}
use Rattle.lg_bit_set.proofs.word.place_after.Goals as goal

pub bits-preserved : goal.bits-preserved
bits-preserved c = IsLeftOver-more c.args.word c.bits.counter c.bits.rest (omega arith) c.bits.invariant

pub returns : goal.returns
returns c =
    let all : c.bits.counter ≡ c.args.below = omega arith in
    let left : IsLeftOver c.args.word c.args.below c.bits.rest = rw all at c.bits.invariant in
    let some : 0 < c.bits.rest = IsLeftOver-some c.args.word c.args.below c.bits.rest c.requires left in
    record {
      place = IsLeftOver-end c.args.word c.args.below c.bits.rest c.requires left;
      within = (bit_at-trailing_zeros w64 c.bits.rest some left.fits).0;
    }
