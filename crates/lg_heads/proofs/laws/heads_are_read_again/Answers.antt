use Rattle.lg_recording.proofs.Beginnings.{start_again}
use Rattle.lg_heads.specs.Meaning.Heads.{spelled_head_body}
use Rattle.lg_heads.proofs.HeadLaws.{body_again}
use Rattle.lg_heads.proofs.laws.heads_are_read_again.Goals as goal

pub returns-clause-body : goal.returns-clause-body
returns-clause-body c = body_again

pub returns-clause-file : goal.returns-clause-file
returns-clause-file c = λ h rest fits. start_again (spelled_head_body h) rest fits
