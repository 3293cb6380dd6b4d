use Rattle.std.proofs.Common.{◌≡◌, ◌++◌, length, true, false, arith}
use Rattle.std.proofs.lemmas.Grind.{common_steps}
use Rattle.lg_seal.specs.Meaning.Sealing.{signed_part}
use Rattle.lg_seal.proofs.SealedParts.{forged_parts}
use Rattle.lg_seal.proofs.sealing.Sealer.open.Goals as goal

pub returns-then-not-is_signed-clause-refused : goal.returns-then-not-is_signed-clause-refused
returns-then-not-is_signed-clause-refused c =
    let signed = c.in_ok-signed.signed.now in
    let tag = c.in_ok-signed.tag.now in
    let packet = c.in_ok-packet.packet.now in
    let whole : c.args.datagram.now ≡ signed ++ tag = grind (arith, common_steps) in
    let begins : signed ≡ signed_part packet = grind (arith, common_steps) in
    let long : length tag ≡ 16 = grind (arith, common_steps) in
    forged_parts c.args.self.now c.args.datagram.now signed tag packet whole begins long (λ right.
    let is : c.is_signed.result ≡ true = c.is_signed.ensures.1 right in
    let is_not : c.is_signed.result ≡ false = c.if-not-is_signed.true in
    cc)
