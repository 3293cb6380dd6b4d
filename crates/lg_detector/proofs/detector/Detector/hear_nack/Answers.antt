use Rattle.std.proofs.Common.{ap, sym, subst}
use Rattle.lg_detector.specs.Support.Kept.{state_in}
use Rattle.lg_detector.specs.Support.Reached.{IsReached}
use Rattle.lg_detector.specs.Support.State.{hear_nack}
use Rattle.lg_detector.proofs.Reaching.{reached-nack}
use Rattle.lg_detector.proofs.detector.Detector.hear_nack.Goals as goal

pub invariant_of-self : goal.invariant_of-self
unfolding hear_nack
invariant_of-self c =
    let parts = c.deref_mut-parts.result.now in
    let before : IsReached (state_in parts) = subst IsReached (sym (ap state_in c.deref_mut-parts.ensures.value)) c.self.invariant in
    reached-nack (state_in parts) _ c.args.number c.args.sender.now
    (λ i. record {
      events = parts.events;
      moment = parts.moment;
      score = parts.score;
      timers = parts.timers;
      order = parts.order;
      number = parts.number;
      round = c.take_nack.ensures i;
      gossip = parts.gossip;
      relays = parts.relays;
      membership = parts.membership;
    })
    before
