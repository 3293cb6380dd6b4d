use Rattle.lg_detector.proofs.RoomLaws.{room-none, room-some, room-then, room-unneeded}
use Rattle.lg_detector.proofs.detector.room_is_made_by_the_earliest.Goals as goal

pub returns-clause-some : goal.returns-clause-some
returns-clause-some c = λ log claim needs gone. room-some log claim needs gone

pub returns-clause-none : goal.returns-clause-none
returns-clause-none c = λ log claim gone. room-none log claim gone

pub returns-clause-roomy : goal.returns-clause-roomy
returns-clause-roomy c = λ log claim needs. room-unneeded log claim needs

pub returns-clause-enough : goal.returns-clause-enough
returns-clause-enough c = λ log claim gone. room-then log claim gone
