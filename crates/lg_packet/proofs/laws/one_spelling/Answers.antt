use Rattle.lg_packet.proofs.Packets.{one_packet, one_start}
use Rattle.lg_packet.proofs.laws.one_spelling.Goals as goal

pub returns-clause-apart : goal.returns-clause-apart
returns-clause-apart c = one_packet

pub returns-clause-whole : goal.returns-clause-whole
returns-clause-whole c = λ p q rest p_fits q_fits e. (one_start p q rest p_fits q_fits e).1
