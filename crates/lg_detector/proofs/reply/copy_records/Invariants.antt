use Rattle.std.proofs.Common.{◌≡◌, take}
use Rattle.lg_detector.proofs.reply.copy_records.Given as goal

abbrev pub invariant-loop-claim : goal.invariant-loop-claim
invariant-loop-claim l = l.copies.items ≡ take l.claim-index l.records
