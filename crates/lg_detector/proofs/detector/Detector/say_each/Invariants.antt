use Rattle.lg_detector.proofs.Applying.{IsOnTheWay}
use Rattle.lg_detector.proofs.detector.Detector.say_each.Given as goal

abbrev pub invariant-loop-claim : goal.invariant-loop-claim
invariant-loop-claim l = IsOnTheWay l.fn.self l.self l.claims l.claim-index l.differing.items
