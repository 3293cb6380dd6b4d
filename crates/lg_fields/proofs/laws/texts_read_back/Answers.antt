use Rattle.lg_fields.proofs.Texts.{text_again, text_takes}
use Rattle.lg_fields.proofs.laws.texts_read_back.Goals as goal

pub returns-clause-again : goal.returns-clause-again
returns-clause-again c = text_again

pub returns-clause-takes : goal.returns-clause-takes
returns-clause-takes c = text_takes
