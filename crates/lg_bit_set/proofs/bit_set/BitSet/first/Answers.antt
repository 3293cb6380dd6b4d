use Rattle.std.proofs.Common.{◌*◌, ◌+◌, ◌∙◌, ap, sym, arith, drop, get_or}
use Rattle.std.specs.List.{slice_get}
use Rattle.lg_bit_set.specs.Meaning.Flags.{numbers_from}
use Rattle.lg_bit_set.specs.Support.Words.{flags_of}
use Rattle.lg_bit_set.proofs.NthLaws.{nth_here, nth_later, nth_none}
use Rattle.lg_bit_set.proofs.SetFlags.{no_ones, some_bit}
use Rattle.lg_bit_set.proofs.bit_set.BitSet.first.Goals as goal

pub nth_bit-requires : goal.nth_bit-requires
nth_bit-requires c = some_bit (get_or c.self.inside.words c.words.i 0) c.if-word-ne0.true

pub returns-then-word-ne0 : goal.returns-then-word-ne0
returns-then-word-ne0 c =
    sym
    (c.words.invariant
    ∙ nth_here c.self.inside.words c.words.i 0 c.nth_bit.result (omega (arith, c.self.invariant.four))
    c.self.invariant.fit (some_bit (get_or c.self.inside.words c.words.i 0) c.if-word-ne0.true) c.nth_bit.ensures.place)

pub words-preserved : goal.words-preserved
words-preserved c =
    let words = c.self.inside.words in
    let i = c.words.i in
    let none = no_ones (get_or words i 0) c.if-word-ne0.false in
    c.words.invariant
    ∙ nth_later words i 0 (omega (arith, c.self.invariant.four)) c.self.invariant.fit (omega (arith, none))
    ∙ ap (λ n. slice_get (numbers_from (64 * (i + 1)) (flags_of (drop (i + 1) words))) n) (omega (arith, none))

pub returns : goal.returns
returns c =
    sym
    (c.words.invariant
    ∙ nth_none c.self.inside.words c.words.i 0 (64 * c.words.i) (omega (arith, c.self.invariant.four)))
