use Rattle.lg_rules.proofs.Unforgotten.{same-known, same-record, same-slots}
use Rattle.lg_rules.proofs.members.nothing_is_forgotten.Goals as goal

pub returns : goal.returns
returns c = record {
  known = same-known;
  records = λ own name past among. same-record own past name among;
  slots = same-slots;
}
