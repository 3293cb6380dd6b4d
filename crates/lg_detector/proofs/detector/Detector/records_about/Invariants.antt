use Rattle.lg_detector.specs.Support.Step.{view_state}
use Rattle.lg_detector.proofs.Forgetting.{HaveRecords}
use Rattle.lg_detector.proofs.detector.Detector.records_about.Given as goal

abbrev pub invariant-loop-claim : goal.invariant-loop-claim
invariant-loop-claim l = HaveRecords l.claims (view_state l.self) l.records.items l.claim-index
