use Rattle.std.proofs.Common.{subst}
use Rattle.std.specs.Option.{option_copied}
use Rattle.lg_timing.specs.Meaning.Config.{IsChecked}
use Rattle.lg_timing.proofs.ConfigLemmas.{ranges}
use Rattle.lg_membership.specs.Support.Reached.{IsGood}
use Rattle.lg_detector.proofs.detector.gossip.gossip_to.Goals as goal

pub returns-in-Some-clause-few : goal.returns-in-Some-clause-few
returns-in-Some-clause-few c =
    let good : IsChecked c.in-Some.config.now = subst (λ o. IsGood (option_copied o)) c.in-Some.is c.requires in
    (ranges c.in-Some.config.now good).gossip_to_most
