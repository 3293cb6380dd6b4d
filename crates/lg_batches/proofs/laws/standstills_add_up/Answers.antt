use Rattle.lg_batches.proofs.StandstillLaws.{all_said}
use Rattle.lg_batches.proofs.laws.standstills_add_up.Goals as goal

pub returns : goal.returns
returns c = all_said
