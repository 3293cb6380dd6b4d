use Rattle.lg_script.proofs.CuttingLaws.{parts-cut}
use Rattle.lg_script.proofs.words.cut_part.Goals as goal

pub returns : goal.returns
returns c = parts-cut c.args.text.now c.cut_at.result.0.now c.cut_at.result.1 c.cut_at.ensures.before c.cut_at.ensures.behind
