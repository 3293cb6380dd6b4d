use Rattle.lg_fields.proofs.PacketParts.{maybe_label_again, maybe_label_takes}
use Rattle.lg_fields.proofs.laws.maybe_labels_read_back.Goals as goal

pub returns-clause-again : goal.returns-clause-again
returns-clause-again c = maybe_label_again

pub returns-clause-takes : goal.returns-clause-takes
returns-clause-takes c = maybe_label_takes
