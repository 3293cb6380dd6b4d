use Rattle.std.proofs.Common.{arith}
use Rattle.lg_packet.proofs.DecodingLaws.{found, refused}
use Rattle.lg_packet.proofs.decoding.decode_into.Goals as goal

pub returns-then-is_err-clause-refused : goal.returns-then-is_err-clause-refused
returns-then-is_err-clause-refused c =
    refused c.args.bytes.now c.packet-read.result c.packet-read.new.packet (λ i. omega (arith, c.type_inv.bytes i)) c.packet-read.ensures.read

pub returns-else-is_err-clause-found : goal.returns-else-is_err-clause-found
returns-else-is_err-clause-found c =
    found c.args.bytes.now c.packet-read.result c.packet-read.new.packet (λ i. omega (arith, c.type_inv.bytes i)) c.packet-read.ensures.read
