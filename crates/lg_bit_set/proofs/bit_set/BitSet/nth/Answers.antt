use Rattle.std.proofs.Common.{◌*◌, ◌∙◌, sym, arith}
use Rattle.lg_bit_set.proofs.NthLaws.{nth_here, nth_later, nth_none}
use Rattle.lg_bit_set.proofs.SetFlags.{flags_long}
use Rattle.lg_bit_set.proofs.bit_set.BitSet.nth.Goals as goal

pub returns-then-left-count : goal.returns-then-left-count
returns-then-left-count c = record {
  number =
      sym
      (c.words.invariant
      ∙ nth_here c.self.inside.words c.words.i c.words.left c.nth_bit.result (omega (arith, c.self.invariant.four))
      c.self.invariant.fit c.if-left-count.true c.nth_bit.ensures.place);
  size = rw (← c.self.view_is) (flags_long c.self.inside.words c.self.invariant);
}

pub words-preserved : goal.words-preserved
words-preserved c =
    c.words.invariant
    ∙ nth_later c.self.inside.words c.words.i c.words.left (omega (arith, c.self.invariant.four)) c.self.invariant.fit
    c.if-left-count.false

pub returns : goal.returns
returns c = record {
  number =
      sym
      (c.words.invariant
      ∙ nth_none c.self.inside.words c.words.i c.words.left (64 * c.words.i) (omega (arith, c.self.invariant.four)));
  size = rw (← c.self.view_is) (flags_long c.self.inside.words c.self.invariant);
}
