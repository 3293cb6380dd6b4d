use Rattle.lg_fields.proofs.PacketParts.{label_again, label_takes}
use Rattle.lg_fields.proofs.laws.labels_read_back.Goals as goal

pub returns-clause-again : goal.returns-clause-again
returns-clause-again c = label_again

pub returns-clause-takes : goal.returns-clause-takes
returns-clause-takes c = label_takes
