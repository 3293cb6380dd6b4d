use Rattle.std.proofs.Common.{subst}
use Rattle.std.specs.Option.{option_copied}
use Rattle.lg_timing.specs.Meaning.Config.{IsChecked}
use Rattle.lg_timing.proofs.ConfigLemmas.{ranges}
use Rattle.lg_membership.specs.Support.Reached.{IsGood}
use Rattle.lg_detector.proofs.detector.relay.relay_time.Goals as goal

pub returns-in-Some-clause-within : goal.returns-in-Some-clause-within
returns-in-Some-clause-within c =
    let good : IsChecked c.in-Some.config.now = subst (λ o. IsGood (option_copied o)) c.in-Some.is c.requires in
    let range = ranges c.in-Some.config.now good in
    range.interval_most
