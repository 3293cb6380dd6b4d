use Rattle.lg_packet.proofs.Places.{first_bad, none_bad}
use Rattle.lg_packet.proofs.laws.first_bad_byte.Goals as goal

pub returns-clause-bad : goal.returns-clause-bad
returns-clause-bad c = first_bad

pub returns-clause-none : goal.returns-clause-none
returns-clause-none c = none_bad
