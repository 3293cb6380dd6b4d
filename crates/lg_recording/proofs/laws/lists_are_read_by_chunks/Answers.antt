use Rattle.lg_recording.proofs.Steps.{no_step, one_step, last_step}
use Rattle.lg_recording.proofs.laws.lists_are_read_by_chunks.Goals as goal

pub returns-clause-none : goal.returns-clause-none
returns-clause-none c = no_step

pub returns-clause-one : goal.returns-clause-one
returns-clause-one c = one_step

pub returns-clause-fault : goal.returns-clause-fault
returns-clause-fault c = last_step
