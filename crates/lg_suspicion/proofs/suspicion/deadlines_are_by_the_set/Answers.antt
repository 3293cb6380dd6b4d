use Rattle.lg_suspicion.proofs.AccuserLaws.{deadline-same}
use Rattle.lg_suspicion.proofs.suspicion.deadlines_are_by_the_set.Goals as goal

pub returns : goal.returns
returns c = deadline-same
