use Rattle.std.proofs.Common.{ap, sym, subst}
use Rattle.lg_detector.specs.Support.Kept.{state_in}
use Rattle.lg_detector.specs.Support.Reached.{IsReached}
use Rattle.lg_membership.specs.declared.addressee.Addressee.TheVariants.{Anybody, Pinged}
use Rattle.lg_membership.specs.Support.State.{taken_in}
use Rattle.lg_detector.proofs.Reaching.{reached-send}
use Rattle.lg_detector.proofs.detector.Detector.fill_claims.Goals as goal

pub invariant_of-self : goal.invariant_of-self
invariant_of-self c =
    let parts = c.deref_mut.result.now in
    let before : IsReached (state_in parts) = subst IsReached (sym (ap state_in c.deref_mut.ensures.value)) c.self.invariant in
    reached-send (state_in parts) _ (taken_in (Pinged c.in-Ping.target) parts.membership)
    (λ i. record {
      events = parts.events;
      moment = parts.moment;
      score = parts.score;
      timers = parts.timers;
      order = parts.order;
      number = parts.number;
      round = parts.round;
      gossip = parts.gossip;
      relays = parts.relays;
      membership = c.fill_into.ensures.state i;
    })
    before

pub invariant_of-self-in-PingReq : goal.invariant_of-self-in-PingReq
invariant_of-self-in-PingReq c =
    let parts = c.deref_mut-in-PingReq.result.now in
    let before : IsReached (state_in parts) = subst IsReached (sym (ap state_in c.deref_mut-in-PingReq.ensures.value)) c.self.invariant in
    reached-send (state_in parts) _ (taken_in Anybody parts.membership)
    (λ i. record {
      events = parts.events;
      moment = parts.moment;
      score = parts.score;
      timers = parts.timers;
      order = parts.order;
      number = parts.number;
      round = parts.round;
      gossip = parts.gossip;
      relays = parts.relays;
      membership = c.fill_into-in-PingReq.ensures.state i;
    })
    before

pub invariant_of-self-in-Ack-1 : goal.invariant_of-self-in-Ack-1
invariant_of-self-in-Ack-1 c =
    let parts = c.deref_mut-in-Ack.result.now in
    let before : IsReached (state_in parts) = subst IsReached (sym (ap state_in c.deref_mut-in-Ack.ensures.value)) c.self.invariant in
    reached-send (state_in parts) _ _
    (λ i. record {
      events = parts.events;
      moment = parts.moment;
      score = parts.score;
      timers = parts.timers;
      order = parts.order;
      number = parts.number;
      round = parts.round;
      gossip = parts.gossip;
      relays = parts.relays;
      membership = c.fill_into-in-Ack.ensures.state i;
    })
    before
