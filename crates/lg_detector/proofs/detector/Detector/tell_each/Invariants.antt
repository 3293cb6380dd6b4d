use Rattle.lg_detector.proofs.Telling.{HaveTold}
use Rattle.lg_detector.proofs.detector.Detector.tell_each.Given as goal

abbrev pub invariant-loop-index : goal.invariant-loop-index
invariant-loop-index l = HaveTold l.fn.self l.self l.fn.told l.index l.count l.slots.items
