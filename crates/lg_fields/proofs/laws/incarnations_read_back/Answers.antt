use Rattle.lg_fields.proofs.PacketParts.{incarnation_again, incarnation_takes}
use Rattle.lg_fields.proofs.laws.incarnations_read_back.Goals as goal

pub returns-clause-again : goal.returns-clause-again
returns-clause-again c = incarnation_again

pub returns-clause-takes : goal.returns-clause-takes
returns-clause-takes c = incarnation_takes
