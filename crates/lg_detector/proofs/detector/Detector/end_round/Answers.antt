use Rattle.std.proofs.Common.{ap, sym, subst, ◌∙◌, arith}
use Rattle.lg_detector.specs.Support.Kept.{state_in}
use Rattle.lg_detector.specs.Support.Reached.{IsReached}
use Rattle.lg_detector.specs.Support.State.{marked_end, with_start}
use Rattle.lg_detector.proofs.Reaching.{few_timers, reached-end}
use Rattle.lg_detector.proofs.detector.Detector.end_round.Goals as goal

pub set_start-requires : goal.set_start-requires
set_start-requires c =
    let parts = c.deref_mut-parts.result.now in
    let before : IsReached (state_in parts) = subst IsReached (sym (ap state_in c.deref_mut-parts.ensures.value)) c.self.invariant in
    omega (arith, few_timers (state_in parts) before)

pub invariant_of-self : goal.invariant_of-self
invariant_of-self c =
    let parts = c.deref_mut-parts.result.now in
    let before : IsReached (state_in parts) = subst IsReached (sym (ap state_in c.deref_mut-parts.ensures.value)) c.self.invariant in
    let score = c.mark_end.ensures ∙ ap (λ r. marked_end r parts.score) c.take.ensures.value in
    let timers = c.set_start.ensures ∙ ap (λ d. with_start d parts.timers) c.milliseconds.ensures.milliseconds in
    reached-end (state_in parts) _
    (λ i. record {
      events = parts.events;
      moment = parts.moment;
      score = score i;
      timers = timers i;
      order = parts.order;
      number = parts.number;
      round = c.take.ensures.after i;
      gossip = parts.gossip;
      relays = parts.relays;
      membership = parts.membership;
    })
    before
