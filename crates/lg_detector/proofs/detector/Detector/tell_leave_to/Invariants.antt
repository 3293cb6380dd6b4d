use Rattle.lg_detector.proofs.LeaveTelling.{HaveToldLeave}
use Rattle.lg_detector.proofs.detector.Detector.tell_leave_to.Given as goal

abbrev pub invariant-loop-index : goal.invariant-loop-index
invariant-loop-index l = HaveToldLeave l.fn.self l.fn.told l.index l.count l.slots.items
