use Rattle.std.proofs.Common.{length}
use Rattle.lg_commands.proofs.AnswerLaws.{HasAnswered}
use Rattle.lg_commands.proofs.answer.answer.Given as goal

abbrev pub invariant-lines : goal.invariant-lines
invariant-lines l = HasAnswered l.name l.input l.rest l.text.items l.detector l.end

abbrev pub decreases-lines : goal.decreases-lines
decreases-lines l = length l.rest
