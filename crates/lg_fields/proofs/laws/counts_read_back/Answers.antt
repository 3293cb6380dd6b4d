use Rattle.lg_fields.proofs.Numbers.{count_again, count_takes}
use Rattle.lg_fields.proofs.laws.counts_read_back.Goals as goal

pub returns-clause-again : goal.returns-clause-again
returns-clause-again c = count_again

pub returns-clause-takes : goal.returns-clause-takes
returns-clause-takes c = count_takes
