use Rattle.std.proofs.Common.{arith, subst, sym}
use Rattle.std.specs.Option.{option_copied}
use Rattle.lg_timing.specs.Meaning.Config.{IsChecked}
use Rattle.lg_timing.proofs.ConfigLemmas.{ranges}
use Rattle.lg_membership.specs.Support.Reached.{IsGood}
use Rattle.lg_detector.proofs.detector.facts.forget_after.Goals as goal

pub overflow_add-result : goal.overflow_add-result
overflow_add-result c =
    let config = c.in-Some-config.config.now in
    let held : IsGood (option_copied c.config.result) = subst IsGood (sym c.config.ensures.state) c.requires in
    let good : IsChecked config = subst (λ o. IsGood (option_copied o)) c.in-Some-config.is held in
    omega (arith, c.milliseconds.ensures.within, (ranges config good).forget_most)
