use Rattle.std.proofs.Common.{◌≡◌, ◌+◌, ap, ◌∙◌, Some, arith}
use Rattle.lg_bit_set.specs.Support.Words.{word_flags, length-word_flags}
use Rattle.lg_bit_set.specs.Meaning.Flags.{nth_number}
use Rattle.lg_bit_set.proofs.Halves.{number_within}
use Rattle.lg_bit_set.proofs.word.nth_bit.Goals as goal

pub returns : goal.returns
returns c =
    let n = c.place_after-2.result in
    let a = c.pass_by-half.ensures.place in
    let b = c.pass_by-quarter.ensures.place in
    let d = c.pass_by-eighth.ensures.place in
    let at : nth_number (word_flags 64 c.args.word) c.args.index ≡ Some (c.pass_by-eighth.result.passed + n) =
    a.place _ (b.place _ (d.place n c.place_after-2.ensures.place))
    ∙ ap Some (omega (arith, a.further, b.further, d.further)) in
    record {
      place = at;
      within =
          omega (
            arith,
            number_within (word_flags 64 c.args.word) 0 c.args.index _ at,
            length-word_flags 64 c.args.word,
          );
    }
