use Rattle.std.proofs.Common.{IsTrue, ap, ◌∙◌, sym, subst}
use Rattle.lg_detector.specs.Support.State.{State}
use Rattle.lg_detector.specs.Support.Step.{accepts_of, step_state, reply_state}
use Rattle.lg_detector.proofs.StepLaws.{step-accepted, step-after, reply-of}
use Rattle.lg_detector.proofs.detector.Detector.step.Goals as goal

pub returns-clause-after : goal.returns-clause-after
returns-clause-after c =
    λ f is.
    c.advance.ensures.state
    ∙ sym (step-accepted c.args.self.now c.args.event.now c.requires)
    ∙ ap (λ (s : State). step_state s c.args.event.now) is
    ∙ step-after f c.args.event.now (subst (λ (s : State). IsTrue (accepts_of s c.args.event.now)) is c.requires)

pub returns-clause-answer : goal.returns-clause-answer
returns-clause-answer c = λ f is. c.advance.ensures.reply ∙ ap (λ (s : State). reply_state s c.args.event.now) is ∙ reply-of f c.args.event.now
