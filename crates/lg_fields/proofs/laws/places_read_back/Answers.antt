use Rattle.lg_fields.proofs.PacketParts.{place_again, place_takes}
use Rattle.lg_fields.proofs.laws.places_read_back.Goals as goal

pub returns-clause-again : goal.returns-clause-again
returns-clause-again c = place_again

pub returns-clause-takes : goal.returns-clause-takes
returns-clause-takes c = place_takes
