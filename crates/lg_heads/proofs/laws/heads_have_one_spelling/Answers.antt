use Rattle.lg_heads.proofs.HeadLaws.{body_takes}
use Rattle.lg_heads.proofs.laws.heads_have_one_spelling.Goals as goal

pub returns : goal.returns
returns c = body_takes
