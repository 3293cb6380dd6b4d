use Rattle.std.proofs.Common.{◌≡◌, ◌+◌, None, Option, ap, arith, sym, subst, ◌∙◌}
use Rattle.lg_timing.specs.declared.config.Config.{Config}
use Rattle.lg_detector.specs.Meaning.Timing.{scaled_interval}
use Rattle.lg_detector.specs.Support.Kept.{state_in}
use Rattle.lg_detector.specs.Support.Reached.{IsReached}
use Rattle.lg_detector.specs.Support.State.{depart, without_probe}
use Rattle.lg_detector.proofs.Reaching.{few_timers, reached-depart}
use Rattle.lg_detector.proofs.detector.Detector.depart.Goals as goal

pub drop_probe-requires : goal.drop_probe-requires
drop_probe-requires c =
    let parts = c.deref_mut-parts.result.now in
    let before : IsReached (state_in parts) = subst IsReached (sym (ap state_in c.deref_mut-parts.ensures.value)) c.self.invariant in
    omega (arith, few_timers (state_in parts) before)

pub invariant_of-self : goal.invariant_of-self
unfolding depart
invariant_of-self c =
    let parts = c.deref_mut-parts.result.now in
    let before : IsReached (state_in parts) = subst IsReached (sym (ap state_in c.deref_mut-parts.ensures.value)) c.self.invariant in
    let later : c.milliseconds-now.result + c.scaled_interval.result ≡ parts.moment + scaled_interval parts.membership.config parts.score =
    λ i. c.milliseconds-now.ensures.milliseconds i + (c.scaled_interval.ensures.interval ∙ ap (λ (o : Option Config). scaled_interval o parts.score) c.config.ensures.state) i in
    let timers = c.drop_probe.ensures ∙ (λ i. without_probe (c.is_some.ensures i) (later i) parts.timers) in
    reached-depart (state_in parts) _
    (λ i. record {
      events = parts.events;
      moment = parts.moment;
      score = parts.score;
      timers = timers i;
      order = parts.order;
      number = parts.number;
      round = None;
      gossip = parts.gossip;
      relays = parts.relays;
      membership = c.leave.ensures.state i;
    })
    before
