use Rattle.std.proofs.Common.{refl}
use Rattle.lg_history.proofs.Rests.{rest_whole, rest_grows, rest_cut, rest_accepted, rest_answered, rest_seats, answered_from}
use Rattle.lg_history.proofs.laws.rests_go_on.Goals as goal

pub returns-clause-whole : goal.returns-clause-whole
returns-clause-whole c = rest_whole

pub returns-clause-grows : goal.returns-clause-grows
returns-clause-grows c places seat past cut h e rest shut few low high = rest_grows places seat past cut h e _ rest shut few low high refl

pub returns-clause-cut : goal.returns-clause-cut
returns-clause-cut c = rest_cut

pub returns-clause-accepted : goal.returns-clause-accepted
returns-clause-accepted c = rest_accepted

pub returns-clause-answered : goal.returns-clause-answered
returns-clause-answered c = rest_answered

pub returns-clause-summary : goal.returns-clause-summary
returns-clause-summary c = answered_from

pub returns-clause-seats : goal.returns-clause-seats
returns-clause-seats c = rest_seats
