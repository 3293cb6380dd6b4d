use Rattle.std.proofs.Common.{Option, ap, ◌∙◌}
use Rattle.lg_timers.specs.declared.timer.Timer.{Timer}
use Rattle.lg_detector.specs.Meaning.Timing.{or_zero}
use Rattle.lg_detector.specs.Support.State.{State}
use Rattle.lg_detector.specs.Support.Step.{deadline_state, react_state, reply_state}
use Rattle.lg_detector.specs.Support.Tick.{ended_state}
use Rattle.lg_detector.proofs.GossipLaws.{ended-react}
use Rattle.lg_detector.proofs.detector.Detector.advance.Goals as goal

pub returns-clause-state : goal.returns-clause-state
returns-clause-state c =
    let s = c.args.self.now in
    let e = c.args.event.now in
    c.end_event.ensures
    ∙ ap (ended_state c.react.new.reply.fired) c.react.ensures.state
    ∙ ap (λ (fired : Option Timer). ended_state fired (react_state s e)) c.react.ensures.fired
    ∙ ended-react s e

pub returns-clause-reply : goal.returns-clause-reply
unfolding reply_state
returns-clause-reply c =
    let behind = returns-clause-state c in
    λ i. record {
      fired = c.react.ensures.fired i;
      sends = record { items = c.react.ensures.sends i };
      changed = record { items = c.react.ensures.differing i };
      forgotten = record { items = c.react.ensures.forgotten i };
      answer = c.react.ensures.answer i;
      ousted = (c.is_ousted-reply.ensures ∙ ap (λ (s : State). s.membership.own.ousted) behind) i;
      next = (c.next-reply.ensures ∙ ap (λ (s : State). or_zero (deadline_state s)) behind) i;
    }
