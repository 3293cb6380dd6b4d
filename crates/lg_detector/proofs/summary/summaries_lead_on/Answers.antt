use Rattle.std.proofs.Common.{ap, ◌∙◌}
use Rattle.lg_detector.specs.Support.State.{State}
use Rattle.lg_detector.specs.Support.Summary.{led_on}
use Rattle.lg_detector.proofs.Summaries.{led_on-after, answer_from-after}
use Rattle.lg_detector.proofs.summary.summaries_lead_on.Goals as goal

pub returns-clause-state : goal.returns-clause-state
returns-clause-state c = λ s f g is accepted. ap (λ (t : State). led_on t g) is ∙ led_on-after f g accepted

pub returns-clause-reply : goal.returns-clause-reply
returns-clause-reply c = λ s f g e is accepted. answer_from-after s f g e is accepted
