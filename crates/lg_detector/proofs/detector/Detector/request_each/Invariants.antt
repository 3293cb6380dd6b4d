use Rattle.lg_detector.proofs.Sending.{HaveRequested}
use Rattle.lg_detector.proofs.detector.Detector.request_each.Given as goal

abbrev pub invariant-loop-index : goal.invariant-loop-index
invariant-loop-index l = HaveRequested l.fn.number l.fn.target l.fn.self l.self l.fn.helpers l.index l.count l.slots.items
