use Rattle.std.proofs.Common.{None, ap, sym, subst, ◌∙◌, arith}
use Rattle.lg_timers.specs.Meaning.Timers.{with_timer}
use Rattle.lg_detector.specs.Meaning.Timing.{start_timer}
use Rattle.lg_detector.specs.Support.Kept.{state_in}
use Rattle.lg_detector.specs.Support.Reached.{IsReached}
use Rattle.lg_timing.proofs.ConfigLemmas.{ranges}
use Rattle.lg_detector.proofs.Reaching.{reached-begin}
use Rattle.lg_detector.proofs.detector.Detector.begin.Goals as goal

pub new-parts-requires : goal.new-parts-requires
new-parts-requires c = (ranges c.args.config.now c.requires).max_score_most

pub overflow_cast-parts : goal.overflow_cast-parts
overflow_cast-parts c = omega (arith, (ranges c.args.config.now c.requires).first_most)

pub invariant_of-self : goal.invariant_of-self
invariant_of-self c =
    let parts = c.deref_mut-parts.result.now in
    let before : IsReached (state_in parts) = subst IsReached (sym (ap state_in c.deref_mut-parts.ensures.value)) c.self.invariant in
    let timers = c.set.ensures ∙ (λ i. with_timer (start_timer (c.milliseconds-deadline.ensures.milliseconds i)) (c.clear.ensures i)) in
    reached-begin (state_in parts) _ c.args.config.now
    (λ i. record {
      events = parts.events;
      moment = parts.moment;
      score = c.new-parts.ensures i;
      timers = timers i;
      order = c.new-parts-2.ensures i;
      number = c.args.config.now.first;
      round = None;
      gossip = None;
      relays = c.new-parts-3.ensures i;
      membership = c.open_with.ensures.state i;
    })
    c.requires before
