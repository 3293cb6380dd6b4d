use Rattle.std.proofs.Common.{refl}
use Rattle.lg_text.proofs.LineLaws.{line-within, lines-cut, rest-shorter}
use Rattle.lg_text.proofs.lines.cut_line.Goals as goal

pub returns-clause-lines : goal.returns-clause-lines
returns-clause-lines c =
    rw c.unwrap_or.ensures (lines-cut c.args.text.now c.cut_at.result.0.now c.cut_at.result.1 _ c.requires c.cut_at.ensures.before c.cut_at.ensures.behind refl)

pub returns-clause-within : goal.returns-clause-within
returns-clause-within c = line-within c.args.text.now c.cut_at.result.0.now c.cut_at.ensures.before

pub returns-clause-shorter : goal.returns-clause-shorter
returns-clause-shorter c = rw c.unwrap_or.ensures (rest-shorter c.args.text.now c.cut_at.result.1 _ c.requires c.cut_at.ensures.behind refl)
