use Rattle.lg_packet.proofs.Beginning.{begins_stands, begins_fits, stands_begins}
use Rattle.lg_packet.proofs.laws.begun_spelling.Goals as goal

pub returns-clause-stands : goal.returns-clause-stands
returns-clause-stands c = begins_stands

pub returns-clause-incarnation : goal.returns-clause-incarnation
returns-clause-incarnation c = begins_fits

pub returns-clause-fits : goal.returns-clause-fits
returns-clause-fits c = stands_begins
