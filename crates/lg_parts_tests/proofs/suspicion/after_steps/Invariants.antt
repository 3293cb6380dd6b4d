use Rattle.lg_suspicion.specs.Meaning.Parts.{IsKnownTo}
use Rattle.lg_parts_tests.proofs.suspicion.after_steps.Given as goal

abbrev pub invariant-loop-step : goal.invariant-loop-step
invariant-loop-step l = IsKnownTo l.members.names l.suspicion
