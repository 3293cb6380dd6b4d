use Rattle.lg_fields.proofs.Configs.{config_again, config_takes}
use Rattle.lg_fields.proofs.laws.configs_read_back.Goals as goal

pub returns-clause-again : goal.returns-clause-again
returns-clause-again c = config_again

pub returns-clause-takes : goal.returns-clause-takes
returns-clause-takes c = config_takes
