use Rattle.lg_fields.proofs.Pages.{told_again, told_takes, own_told_again}
use Rattle.lg_fields.proofs.laws.packets_read_back.Goals as goal

pub returns-clause-again : goal.returns-clause-again
returns-clause-again c = told_again

pub returns-clause-takes : goal.returns-clause-takes
returns-clause-takes c = told_takes

pub returns-clause-own : goal.returns-clause-own
returns-clause-own c = own_told_again
