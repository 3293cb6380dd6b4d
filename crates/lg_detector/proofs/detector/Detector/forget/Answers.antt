use Rattle.std.proofs.Common.{ap, sym, subst, ◌∙◌}
use Rattle.lg_timers.specs.declared.timer.TimerId.TheVariants.{Forget}
use Rattle.lg_timers.specs.Meaning.Timers.{without_timer}
use Rattle.lg_detector.specs.Support.Kept.{state_in}
use Rattle.lg_detector.specs.Support.Reached.{IsReached}
use Rattle.lg_detector.specs.Support.State.{forget_name}
use Rattle.lg_detector.proofs.Reaching.{reached-forget}
use Rattle.lg_detector.proofs.detector.Detector.forget.Goals as goal

pub invariant_of-self : goal.invariant_of-self
unfolding forget_name
invariant_of-self c =
    let parts = c.deref_mut-parts.result.now in
    let before : IsReached (state_in parts) = subst IsReached (sym (ap state_in c.deref_mut-parts.ensures.value)) c.self.invariant in
    let timers = c.cancel-2.ensures.others ∙ ap (without_timer (Forget c.args.name.now)) c.cancel.ensures.others in
    reached-forget (state_in parts) _ c.args.name.now
    (λ i. record {
      events = parts.events;
      moment = parts.moment;
      score = parts.score;
      timers = timers i;
      order = c.forget.ensures.order i;
      number = parts.number;
      round = parts.round;
      gossip = parts.gossip;
      relays = parts.relays;
      membership = c.forget-2.ensures.state i;
    })
    before
