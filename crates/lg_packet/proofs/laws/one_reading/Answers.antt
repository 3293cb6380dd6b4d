use Rattle.std.proofs.Common.{refl}
use Rattle.lg_packet.proofs.DecodingLaws.{are_bytes, decodes, one_result}
use Rattle.lg_packet.specs.Meaning.Reading.{packet_of}
use Rattle.lg_packet.proofs.laws.one_reading.Goals as goal

pub returns-clause-one : goal.returns-clause-one
returns-clause-one c = one_result

pub returns-clause-read : goal.returns-clause-read
returns-clause-read c = λ bytes fit. decodes bytes (packet_of bytes) (are_bytes bytes fit) refl
