use Rattle.lg_fields.proofs.Texts.{flag_again, flag_takes}
use Rattle.lg_fields.proofs.laws.flags_read_back.Goals as goal

pub returns-clause-again : goal.returns-clause-again
returns-clause-again c = flag_again

pub returns-clause-takes : goal.returns-clause-takes
returns-clause-takes c = flag_takes
