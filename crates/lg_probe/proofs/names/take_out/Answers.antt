use Rattle.std.proofs.Common.{◌≡◌, false, ◌||◌, get_or, set, sym, ◌∙◌, ap, subst, refl, List, Bool, ◌+◌, arith}
use Rattle.lg_bit_set.specs.Meaning.Flags.{entries_in}
use Rattle.lg_rules.proofs.KeyOrder.{names_eq}
use Rattle.lg_probe.specs.Support.Order.{IsPart}
use Rattle.lg_probe.specs.Meaning.Order.{without}
use Rattle.lg_probe.proofs.Parts.{part_is, part_long, part_self}
use Rattle.lg_probe.proofs.TakingOut.{IsOut, out_first, out_skipped, out_taken, out_all}
use Rattle.lg_probe.proofs.names.take_out.Goals as goal
use Rattle.lg_probe.proofs.names.take_out.Goals.{then-eq, then-found, else-found, else-eq}

pub loop-number-init : goal.loop-number-init
loop-number-init c = out_first c.args.row.now c.args.name.now c.args.numbers.now

pub loop-number-preserved : goal.loop-number-preserved
loop-number-preserved c =
    let row = c.args.row.now in
    let name = c.args.name.now in
    let before = c.args.numbers.now in
    let flags = c.loop-number.numbers in
    let number = c.loop-number.number in
    let other = c.index-row-number.result in
    let named = sym (names_eq other name) ∙ sym c.eq.ensures in
    elim c.if-eq.branch [
      | then-eq w ↦ (
          let seen : c.if-eq.found ≡ (c.loop-number.found || get_or flags number false) =
          w.found-is
          ∙ elim w.if-found.branch [
            | then-found w' ↦ w'.found-is ∙ w'.if-found.true
                ∙ ap (λ b. b || get_or flags number false) (sym w'.if-found.true)
            | else-found w' ↦ w'.found-is ∙ w'.contains-found.ensures.flag
                ∙ ap (λ b. b || get_or flags number false) (sym w'.if-found.false)
          ] in
          subst (λ (f : List Bool). IsOut row name before f c.if-eq.found (number + 1))
          (sym (w.numbers-is ∙ w.remove.ensures.flags))
          (subst (λ (b : Bool). IsOut row name before (set flags number false) b (number + 1)) (sym seen)
          (out_taken row name before flags c.loop-number.found number other c.loop-number-test.true
          c.index-row-number.is c.loop-number.invariant (get_or flags number false)
          (omega (
            arith,
            c.loop-number-test.true,
            c.requires.few,
            part_long c.requires.numbers (omega (arith, c.requires.few)),
          )) (named ∙ w.if-eq.true) refl)))
      | else-eq w ↦ (
          subst (λ (f : List Bool). IsOut row name before f c.if-eq.found (number + 1)) (sym w.numbers-is)
          (subst (λ (b : Bool). IsOut row name before flags b (number + 1)) (sym w.found-is)
          (out_skipped row name before flags c.loop-number.found number other c.loop-number-test.true
          c.index-row-number.is c.loop-number.invariant (named ∙ w.if-eq.false))))
    ]

module _ (c : goal.After-loop-number) where
  all : IsPart c.args.row.now
      (without c.args.name.now (entries_in c.args.numbers.now c.args.row.now)) c.loop-number.numbers
  all = out_all c.args.row.now c.args.name.now c.args.numbers.now c.loop-number.numbers c.loop-number.found
      c.loop-number.number c.loop-number-test.false c.loop-number.auto.number-end c.loop-number.invariant
      c.requires.numbers (omega (arith, c.requires.few))

pub returns-clause-left : goal.returns-clause-left
returns-clause-left c = part_is (all c)

pub returns-clause-numbers : goal.returns-clause-numbers
returns-clause-numbers c = part_self (all c)
