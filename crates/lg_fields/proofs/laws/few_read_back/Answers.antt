use Rattle.lg_fields.proofs.Numbers.{few_again, few_takes}
use Rattle.lg_fields.proofs.laws.few_read_back.Goals as goal

pub returns-clause-again : goal.returns-clause-again
returns-clause-again c = few_again

pub returns-clause-takes : goal.returns-clause-takes
returns-clause-takes c = few_takes
