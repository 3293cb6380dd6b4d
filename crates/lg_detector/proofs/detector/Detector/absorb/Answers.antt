use Rattle.std.proofs.Common.{IsTrue, ap, ◌∙◌, sym, subst}
use Rattle.lg_detector.specs.Support.State.{State}
use Rattle.lg_detector.specs.Support.Step.{accepts_of, step_state}
use Rattle.lg_detector.proofs.StepLaws.{step-accepted, step-after}
use Rattle.lg_detector.proofs.detector.Detector.absorb.Goals as goal

pub returns-then-can_come-clause-after : goal.returns-then-can_come-clause-after
returns-then-can_come-clause-after c =
    λ f is accepted.
    c.advance.ensures.state
    ∙ sym (step-accepted c.args.self.now c.args.event.now accepted)
    ∙ ap (λ (s : State). step_state s c.args.event.now) is
    ∙ step-after f c.args.event.now (subst (λ (s : State). IsTrue (accepts_of s c.args.event.now)) is accepted)
