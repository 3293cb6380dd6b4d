use Rattle.lg_detector.proofs.Numbers.{next_is_free}
use Rattle.lg_detector.proofs.NumbersApart.{none_twice}
use Rattle.lg_detector.proofs.detector.numbers_are_free.Goals as goal

pub returns-clause-next : goal.returns-clause-next
returns-clause-next c = λ f accepted. next_is_free f accepted

pub returns-clause-apart : goal.returns-clause-apart
returns-clause-apart c = λ f accepted. none_twice f accepted
