use Rattle.lg_recording.proofs.Beginnings.{start_again}
use Rattle.lg_recording.proofs.laws.starts_are_read_again.Goals as goal

pub returns : goal.returns
returns c = start_again
