use Rattle.lg_fields.proofs.PacketParts.{word_again, word_takes}
use Rattle.lg_fields.proofs.laws.words_read_back.Goals as goal

pub returns-clause-again : goal.returns-clause-again
returns-clause-again c = word_again

pub returns-clause-takes : goal.returns-clause-takes
returns-clause-takes c = word_takes
