use Rattle.lg_detector.proofs.Forgetting.{HaveHeard}
use Rattle.lg_detector.proofs.detector.Detector.hear_each.Given as goal

abbrev pub invariant-loop-claim : goal.invariant-loop-claim
invariant-loop-claim l = HaveHeard l.teller l.fn.self l.self l.claims l.claim-index l.forgotten.items
