use Rattle.std.proofs.Common.{sym, ap, ◌∙◌, arith}
use Rattle.std.specs.Prelude.{nat_eq}
use Rattle.lg_bit_set.specs.Meaning.Flags.{count_set}
use Rattle.lg_bit_set.proofs.SetFlags.{flags_long, none_set, some_set}
use Rattle.lg_bit_set.proofs.bit_set.BitSet.is_empty.Goals as goal

pub returns-then-word-ne0-clause-empty : goal.returns-then-word-ne0-clause-empty
returns-then-word-ne0-clause-empty c =
    sym
    (ap (λ flags. nat_eq (count_set flags) 0) (sym c.self.view_is)
    ∙ some_set c.self.inside.words c.self.invariant c.loop-word.word-index c.loop-word-test.true c.if-word-ne0.true)

pub returns-clause-empty : goal.returns-clause-empty
returns-clause-empty c =
    sym
    (ap (λ flags. nat_eq (count_set flags) 0) (sym c.self.view_is)
    ∙ none_set c.self.inside.words c.self.invariant
    (c.loop-word.invariant 0 (omega arith)) (c.loop-word.invariant 1 (omega arith))
    (c.loop-word.invariant 2 (omega arith)) (c.loop-word.invariant 3 (omega arith)))

pub returns-then-word-ne0-clause-size : goal.returns-then-word-ne0-clause-size
returns-then-word-ne0-clause-size c = rw (← c.self.view_is) (flags_long c.self.inside.words c.self.invariant)

pub returns-clause-size : goal.returns-clause-size
returns-clause-size c = rw (← c.self.view_is) (flags_long c.self.inside.words c.self.invariant)
