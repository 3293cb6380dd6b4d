use Rattle.std.proofs.Common.{◌≡◌, ◌+◌, ◌-◌, ◌/◌, ◌^◌, ap, ◌∙◌, count_ones, Some, arith, sym}
use Rattle.lg_bit_set.specs.Meaning.Flags.{nth_number}
use Rattle.lg_bit_set.specs.Support.Words.{word_flags}
use Rattle.lg_bit_set.proofs.Halves.{count_parts, masked, place_behind}
use Rattle.lg_bit_set.proofs.word.pass_by.Goals as goal

pub returns-else-below-count-clause-place : goal.returns-else-below-count-clause-place
returns-else-below-count-clause-place c =
    let width = c.args.width in
    let bits = c.args.bits in
    let low = masked bits width c.requires.width in
    let all : width + (64 - width) ≡ 64 = omega (arith, c.requires.width) in
    record {
      further = omega arith;
      place = λ n at.
          place_behind width (64 - width) bits all c.ranges.bits.fits c.args.below n
          (omega (arith, ap count_ones low, c.if-below-count.false))
          (ap (λ k. nth_number (word_flags 64 (bits / 2 ^ width)) (c.args.below - k)) (ap count_ones (sym low)) ∙ at)
          ∙ ap Some (omega arith);
    }

pub returns-else-below-count-clause-more : goal.returns-else-below-count-clause-more
returns-else-below-count-clause-more c =
    let width = c.args.width in
    let bits = c.args.bits in
    let low = masked bits width c.requires.width in
    let all : width + (64 - width) ≡ 64 = omega (arith, c.requires.width) in
    omega (
      arith,
      count_parts width (64 - width) bits all c.ranges.bits.fits,
      ap count_ones low,
      c.if-below-count.false,
      c.requires.more,
    )
