use Rattle.std.proofs.Common.{ap, sym, subst}
use Rattle.lg_detector.specs.Support.Kept.{state_in}
use Rattle.lg_detector.specs.Support.Reached.{IsReached}
use Rattle.lg_detector.proofs.Reaching.{reached-close}
use Rattle.lg_detector.proofs.detector.Detector.close_relay.Goals as goal

pub invariant_of-self : goal.invariant_of-self
invariant_of-self c =
    let parts = c.deref_mut-parts.result.now in
    let before : IsReached (state_in parts) = subst IsReached (sym (ap state_in c.deref_mut-parts.ensures.value)) c.self.invariant in
    reached-close (state_in parts) _ c.args.number
    (λ i. record {
      events = parts.events;
      moment = parts.moment;
      score = parts.score;
      timers = c.cancel_relay.ensures i;
      order = parts.order;
      number = parts.number;
      round = parts.round;
      gossip = parts.gossip;
      relays = c.close.ensures.relays i;
      membership = parts.membership;
    })
    before
