use Rattle.lg_fields.proofs.Pages.{records_again, records_takes}
use Rattle.lg_fields.proofs.laws.records_read_back.Goals as goal

pub returns-clause-again : goal.returns-clause-again
returns-clause-again c = records_again

pub returns-clause-takes : goal.returns-clause-takes
returns-clause-takes c = records_takes
