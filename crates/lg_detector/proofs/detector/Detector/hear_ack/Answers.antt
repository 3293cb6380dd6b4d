use Rattle.std.proofs.Common.{◌∙◌, ap, sym, subst}
use Rattle.lg_detector.specs.Support.Kept.{state_in}
use Rattle.lg_detector.specs.Support.Reached.{IsReached}
use Rattle.std.specs.Prelude.{is_some}
use Rattle.lg_probe.specs.Meaning.Relays.{ended_asker}
use Rattle.lg_detector.specs.Support.State.{hear_ack, without_ended}
use Rattle.lg_detector.proofs.Reaching.{reached-ack}
use Rattle.lg_detector.proofs.detector.Detector.hear_ack.Goals as goal

pub invariant_of-self : goal.invariant_of-self
unfolding hear_ack
invariant_of-self c =
    let parts = c.deref_mut-parts.result.now in
    let before : IsReached (state_in parts) = subst IsReached (sym (ap state_in c.deref_mut-parts.ensures.value)) c.self.invariant in
    let timers = c.take_ack-2.ensures.timers
    ∙ ap (without_ended (is_some (ended_asker c.args.number c.args.sender.now parts.relays)) c.args.number) c.take_ack.ensures.timers in
    reached-ack (state_in parts) _ c.args.number c.args.sender.now
    (λ i. record {
      events = parts.events;
      moment = parts.moment;
      score = c.take_ack.ensures.score i;
      timers = timers i;
      order = parts.order;
      number = parts.number;
      round = c.take_ack.ensures.round i;
      gossip = parts.gossip;
      relays = c.take_ack-2.ensures.relays i;
      membership = parts.membership;
    })
    before
