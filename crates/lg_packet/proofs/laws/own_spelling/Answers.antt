use Rattle.lg_packet.proofs.Spellable.{own-packet}
use Rattle.lg_packet.proofs.laws.own_spelling.Goals as goal

pub returns : goal.returns
returns c = own-packet
