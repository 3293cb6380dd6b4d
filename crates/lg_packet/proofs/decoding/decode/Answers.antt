use Rattle.std.proofs.Common.{sym, ◌∙◌}
use Rattle.lg_packet.proofs.Packets.{whole_again}
use Rattle.lg_packet.proofs.decoding.decode.Goals as goal

pub returns-clause-only : goal.returns-clause-only
returns-clause-only c = λ p spells. sym c.in_ok-decode_into.ensures.exact ∙ whole_again c.args.bytes.now p spells
