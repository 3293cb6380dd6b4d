use Rattle.std.proofs.Common.{subst}
use Rattle.std.specs.Option.{option_copied}
use Rattle.lg_membership.specs.Support.Reached.{IsGood}
use Rattle.lg_detector.proofs.detector.gossip.gossip_delay.Goals as goal

pub delay_in-requires : goal.delay_in-requires
delay_in-requires c = subst (λ o. IsGood (option_copied o)) c.in-Some.is c.requires
