use Rattle.lg_detector.proofs.WindowLaws.{each_target, no_target}
use Rattle.lg_detector.proofs.detector.windows_have_each.Goals as goal

pub returns : goal.returns
returns c = record { each = each_target; none = no_target }
