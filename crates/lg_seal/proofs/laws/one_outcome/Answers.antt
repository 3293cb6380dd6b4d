use Rattle.lg_seal.proofs.SealedParts.{one_packet, taken_or_refused}
use Rattle.lg_seal.proofs.laws.one_outcome.Goals as goal

pub returns-clause-packet : goal.returns-clause-packet
returns-clause-packet c = one_packet

pub returns-clause-apart : goal.returns-clause-apart
returns-clause-apart c = taken_or_refused
