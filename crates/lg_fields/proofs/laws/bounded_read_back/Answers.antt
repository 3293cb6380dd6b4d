use Rattle.lg_fields.proofs.Numbers.{bounded_again, bounded_takes}
use Rattle.lg_fields.proofs.laws.bounded_read_back.Goals as goal

pub returns-clause-again : goal.returns-clause-again
returns-clause-again c = bounded_again

pub returns-clause-takes : goal.returns-clause-takes
returns-clause-takes c = bounded_takes
