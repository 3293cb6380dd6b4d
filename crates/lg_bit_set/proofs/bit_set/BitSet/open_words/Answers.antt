use Rattle.std.proofs.Common.{◌≡◌, ◌+◌, ◌-◌, ◌/◌, subst, arith, set}
use Rattle.lg_bit_set.specs.Support.Steps.{AreRisen, AreOpened}
use Rattle.lg_bit_set.proofs.Opening.{AreRisen-none, AreRisen-more, AreOpened-all, words-opened}
use Rattle.lg_bit_set.proofs.SetFlags.{flags_long}
use Rattle.lg_bit_set.proofs.bit_set.BitSet.open_words.Goals as goal

pub words-init : goal.words-init
words-init c = (omega (arith, c.from-at.ensures), AreRisen-none c.self.inside.words c.self.invariant)

pub words-preserved : goal.words-preserved
words-preserved c =
    let index : c.words.i ≡ c.words.i - 1 + 1 = omega arith in (
      omega arith,
      AreRisen-more c.self.inside.words c.words.self-inside.words (c.words.i - 1) c.risen_word.result (omega arith)
          (omega arith)
          c.risen_word.type_inv
          (subst (λ n. AreRisen c.self.inside.words c.words.self-inside.words n) index c.words.invariant.1)
          c.risen_word.ensures.lowest c.risen_word.ensures.above,
    )

opened_all : (c : goal.After-opened_word)
    → AreOpened c.self.inside.words (set c.words.self-inside.words c.from-at.result c.opened_word.result) c.args.number
opened_all c =
    let index : c.words.i ≡ c.args.number / 64 + 1 = omega (arith, c.from-at.ensures) in
    rw c.from-at.ensures
    (AreOpened-all c.self.inside.words c.words.self-inside.words c.args.number c.opened_word.result (omega arith)
    c.opened_word.type_inv
    (subst (λ n. AreRisen c.self.inside.words c.words.self-inside.words n) index c.words.invariant.1)
    (rw c.from-at.ensures at c.opened_word.ensures.below) c.opened_word.ensures.at
    (rw c.from-at.ensures at c.opened_word.ensures.above))

pub invariant_of-self : goal.invariant_of-self
invariant_of-self c = (opened_all c).are

pub returns : goal.returns
returns c = record {
  flags =
      rw (← c.self.view_is)
      (words-opened c.self.inside.words _ c.args.number (omega arith) c.self.invariant (opened_all c));
  size = flags_long _ (opened_all c).are;
}
