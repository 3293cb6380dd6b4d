use Rattle.std.proofs.Common.{length}
use Rattle.lg_sim.proofs.ScriptLaws.{HasRun}
use Rattle.lg_sim.proofs.script.run_script.Given as goal

abbrev pub invariant-lines : goal.invariant-lines
invariant-lines l = HasRun l.cluster l.input l.rest l.text.items l.number

abbrev pub decreases-lines : goal.decreases-lines
decreases-lines l = length l.rest
