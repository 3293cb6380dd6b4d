use Rattle.lg_detector.proofs.AcceptedLists.{accepted_few, accepted_opens, accepted_more, accepted_opening}
use Rattle.lg_detector.proofs.detector.accepted_lists.Goals as goal

pub returns : goal.returns
returns c = record { few = accepted_few; opens = accepted_opens; more = accepted_more; opening = accepted_opening }
