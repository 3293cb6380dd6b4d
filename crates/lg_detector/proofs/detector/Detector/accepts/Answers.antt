use Rattle.std.proofs.Common.{ap, ◌∙◌}
use Rattle.lg_detector.specs.Support.Kept.{state_in}
use Rattle.lg_detector.specs.Support.State.{State}
use Rattle.lg_detector.specs.Support.Step.{accepts_of}
use Rattle.lg_detector.proofs.Accepting.{accepts-after}
use Rattle.lg_detector.proofs.detector.Detector.accepts.Goals as goal

pub returns-clause-list : goal.returns-clause-list
returns-clause-list c = λ f accepted is.
    c.can_come.ensures
    ∙ ap (λ (s : State). accepts_of s c.args.event.now) (ap state_in c.deref.ensures ∙ c.self.view_is ∙ is)
    ∙ accepts-after f c.args.event.now accepted
