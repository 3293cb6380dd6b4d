use Rattle.std.proofs.Common.{[], arith, sym, false, subst, List, Bool, ℕ}
use Rattle.lg_probe.specs.Support.Order.{IsPart}
use Rattle.lg_probe.proofs.Parts.{part_none, part_is, part_self}
use Rattle.lg_probe.proofs.round.Round.new.Goals as goal

nobody : (c : goal.After-new-2) → IsPart c.new.result.items [] c.new-2.result
nobody c =
    subst (λ (l : List (List ℕ)). IsPart l [] c.new-2.result) (sym c.new.ensures)
    (subst (λ (f : List Bool). IsPart [] [] f) (sym c.new-2.ensures) (part_none [] (omega arith)))

pub invariant_of-result : goal.invariant_of-result
invariant_of-result c = part_self (nobody c)

pub returns : goal.returns
returns c = λ i. record {
  number = c.args.number;
  target = c.args.target.now;
  asked = c.new.ensures i;
  silent =
      part_is (nobody c) i;
  acked = false;
}
