use Rattle.lg_packet.proofs.Written.{Wrote}
use Rattle.lg_packet.proofs.writing.put_claims.Given as goal

abbrev pub invariant-loop-claim : goal.invariant-loop-claim
invariant-loop-claim l = Wrote l.version l.fn.out.items l.out.items l.told l.claim-index
