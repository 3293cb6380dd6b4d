use Rattle.std.proofs.Common.{ap, ◌∙◌}
use Rattle.lg_detector.specs.Support.Kept.{state_in}
use Rattle.lg_detector.specs.Support.State.{State}
use Rattle.lg_detector.proofs.Accepting.{events-after}
use Rattle.lg_detector.proofs.detector.Detector.events.Goals as goal

pub returns-clause-list : goal.returns-clause-list
returns-clause-list c = λ f is. ap (λ (s : State). s.events) (ap state_in c.deref.ensures ∙ c.self.view_is ∙ is) ∙ events-after f
