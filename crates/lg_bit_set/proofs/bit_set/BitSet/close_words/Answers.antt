use Rattle.std.proofs.Common.{◌≡◌, ◌-◌, ◌≤◌, ◌≢◌, subst, arith, List, ℕ, Bool}
use Rattle.std.proofs.lemmas.List.{get_or-set_other}
use Rattle.lg_bit_set.specs.Support.Steps.{AreFallen}
use Rattle.lg_bit_set.specs.Support.Words.{AreWords, flags_of, words_from, words_of_flags}
use Rattle.lg_bit_set.proofs.Closing.{AreFallen-first, AreFallen-more, words-closed}
use Rattle.lg_bit_set.proofs.SetFlags.{flags_long}
use Rattle.lg_bit_set.proofs.bit_set.BitSet.close_words.Goals as goal
use Rattle.lg_bit_set.proofs.bit_set.BitSet.close_words.Goals.{After-words}

before : (words : List ℕ) (flags : List Bool) → AreWords words → flags_of words ≡ flags → words_from 4 flags ≡ words
before words flags are e = rw (← e) (words_of_flags words are)

pub words-init : goal.words-init
words-init c =
    rw (before c.self.inside.words c.args.self.now c.self.invariant c.self.view_is, c.from-at.ensures)
    (AreFallen-first c.self.inside.words c.args.number c.closed_word.result (omega arith) c.closed_word.type_inv
    c.self.invariant
    (rw c.from-at.ensures at c.closed_word.ensures.below) (rw c.from-at.ensures at c.closed_word.ensures.above)
    c.closed_word.ensures.highest)

pub words-preserved : goal.words-preserved
words-preserved c =
    let under : c.words.i ≢ c.words.i - 1 = omega arith in
    rw (get_or-set_other c.words.self-inside.words (c.words.i - 1) c.words.i c.topped_word.result 0 under)
    (AreFallen-more (words_from 4 c.args.self.now) c.words.self-inside.words c.args.number c.words.i c.topped_word.result
    (omega arith)
    c.words-test.true c.topped_word.type_inv
    (omega (arith, c.from-at.ensures)) c.words.invariant c.topped_word.ensures.below
    c.topped_word.ensures.highest)

fallen_all : (c : After-words) → 4 ≤ c.words.i → AreFallen c.self.inside.words c.words.self-inside.words c.args.number 4
fallen_all c end =
    let last : c.words.i ≡ 4 = omega arith in
    subst (λ (l : List ℕ). AreFallen l c.words.self-inside.words c.args.number 4)
    (before c.self.inside.words c.args.self.now c.self.invariant c.self.view_is)
    (subst (λ n. AreFallen (words_from 4 c.args.self.now) c.words.self-inside.words c.args.number n) last
    c.words.invariant)

pub invariant_of-self : goal.invariant_of-self
invariant_of-self c = c.words.invariant.are

pub returns : goal.returns
returns c = record {
  flags =
      rw (← c.self.view_is)
      (words-closed c.self.inside.words c.words.self-inside.words c.args.number (omega arith) c.self.invariant
      (fallen_all c c.words-test.false));
  size = flags_long c.words.self-inside.words c.words.invariant.are;
}
