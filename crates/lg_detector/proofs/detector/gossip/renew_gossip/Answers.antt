use Rattle.std.proofs.Common.{None, sym, ap, ◌∙◌}
use Rattle.lg_timers.specs.declared.timer.TimerId.TheVariants.{Gossip}
use Rattle.lg_timers.specs.Meaning.Timers.{with_timer, without_timer}
use Rattle.lg_detector.specs.Meaning.Timing.{gossip_timer}
use Rattle.lg_detector.specs.Support.State.{with_gossip}
use Rattle.lg_detector.proofs.GossipLaws.{without-again}
use Rattle.lg_detector.proofs.detector.gossip.renew_gossip.Goals as goal

pub returns-in-Some : goal.returns-in-Some
returns-in-Some c =
    let timers = c.args.timers.now in
    c.reset.ensures
    ∙ ap (with_timer (gossip_timer c.in-Some.deadline)) (sym (without-again Gossip timers))
    ∙ ap (λ next. with_gossip None next (without_timer Gossip timers)) (sym c.in-Some.is)
