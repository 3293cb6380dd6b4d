use Rattle.std.proofs.Common.{arith, subst}
use Rattle.std.specs.Option.{option_copied}
use Rattle.lg_timing.specs.Meaning.Config.{IsChecked}
use Rattle.lg_timing.proofs.ConfigLemmas.{ranges}
use Rattle.lg_membership.specs.Support.Reached.{IsGood}
use Rattle.lg_detector.proofs.RelayTimes.{product_most, nack_within}
use Rattle.lg_detector.proofs.detector.relay.nack_time.Goals as goal

pub overflow_mul-result : goal.overflow_mul-result
overflow_mul-result c =
    let good : IsChecked c.in-Some.config.now = subst (λ o. IsGood (option_copied o)) c.in-Some.is c.requires in
    let range = ranges c.in-Some.config.now good in
    omega (arith, product_most c.in-Some.config.now range)

pub returns-in-Some-clause-within : goal.returns-in-Some-clause-within
returns-in-Some-clause-within c =
    let good : IsChecked c.in-Some.config.now = subst (λ o. IsGood (option_copied o)) c.in-Some.is c.requires in
    let range = ranges c.in-Some.config.now good in
    nack_within c.in-Some.config.now range
