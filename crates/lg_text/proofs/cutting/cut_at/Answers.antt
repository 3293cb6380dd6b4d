use Rattle.std.proofs.Common.{sym, ◌∙◌}
use Rattle.lg_text.proofs.CuttingLaws.{before-at, before-none, behind-at, behind-none}
use Rattle.lg_text.proofs.cutting.cut_at.Goals as goal

pub returns-in-Some-clause-before : goal.returns-in-Some-clause-before
returns-in-Some-clause-before c = before-at c.args.byte c.args.text.now c.in-Some.at (sym c.in-Some.is ∙ c.place_of.ensures)

pub returns-in-Some-clause-behind : goal.returns-in-Some-clause-behind
returns-in-Some-clause-behind c = behind-at c.args.byte c.args.text.now c.in-Some.at (sym c.in-Some.is ∙ c.place_of.ensures)

pub returns-in-None-clause-before : goal.returns-in-None-clause-before
returns-in-None-clause-before c = before-none c.args.byte c.args.text.now (sym c.in-None.is ∙ c.place_of.ensures)

pub returns-in-None-clause-behind : goal.returns-in-None-clause-behind
returns-in-None-clause-behind c = behind-none c.args.byte c.args.text.now (sym c.in-None.is ∙ c.place_of.ensures)
