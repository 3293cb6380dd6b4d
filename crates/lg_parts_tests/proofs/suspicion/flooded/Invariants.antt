use Rattle.lg_suspicion.specs.Meaning.Parts.{IsKnownTo}
use Rattle.lg_parts_tests.proofs.suspicion.flooded.Given as goal

abbrev pub invariant-loop-number : goal.invariant-loop-number
invariant-loop-number l = IsKnownTo l.members.names l.suspicion
