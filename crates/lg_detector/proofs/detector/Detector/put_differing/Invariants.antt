use Rattle.lg_rules.specs.Meaning.View.{changed}
use Rattle.lg_detector.specs.Support.Step.{view_state}
use Rattle.lg_detector.proofs.Forgetting.{HaveRecords}
use Rattle.lg_detector.proofs.detector.Detector.put_differing.Given as goal

abbrev pub invariant-loop-claim : goal.invariant-loop-claim
invariant-loop-claim l = HaveRecords l.claims (changed l.before (view_state l.self)) l.differing.items l.claim-index
