use Rattle.lg_detector.proofs.Accepting.{accepts-after, events-after}
use Rattle.lg_detector.proofs.ChoiceLaws.{targets-gained}
use Rattle.lg_detector.proofs.Deadlines.{deadline_is_set, deadline_is_begun}
use Rattle.lg_detector.proofs.StepLaws.{step-after, reply-of}
use Rattle.lg_detector.proofs.detector.states_lead_on.Goals as goal

pub returns-clause-next : goal.returns-clause-next
returns-clause-next c = λ f e accepted. step-after f e accepted

pub returns-clause-reply : goal.returns-clause-reply
returns-clause-reply c = λ f e. reply-of f e

pub returns-clause-accepts : goal.returns-clause-accepts
returns-clause-accepts c = λ f e accepted. accepts-after f e accepted

pub returns-clause-events : goal.returns-clause-events
returns-clause-events c = λ f. events-after f

pub returns-clause-deadline : goal.returns-clause-deadline
returns-clause-deadline c = λ x f opens. deadline_is_set x f opens

pub returns-clause-timed : goal.returns-clause-timed
returns-clause-timed c = λ f opens. deadline_is_begun f opens

pub returns-clause-chosen : goal.returns-clause-chosen
returns-clause-chosen c = λ f e. targets-gained f e
