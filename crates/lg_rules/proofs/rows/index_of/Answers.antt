use Rattle.std.proofs.Common.{sym, ◌∙◌, ap}
use Rattle.lg_rules.proofs.KeyOrder.{names_order, names_equal, names_differ}
use Rattle.lg_rules.proofs.Places.{has_row, lacks_row, lacks_end}
use Rattle.lg_rules.proofs.rows.index_of.Goals as goal

pub returns-then-eq : goal.returns-then-eq
returns-then-eq g c =
    has_row names_order g.T.Keyed.key_of c.args.name.now c.count_lesser-at.result c.index-rows-at.result c.args.rows.now c.count_lesser-at.ensures c.if-at-rows.true c.index-rows-at.is
    (sym c.key.ensures ∙ names_equal c.key.result c.args.name.now (sym c.eq.ensures ∙ c.if-eq.true))

pub returns-else-eq : goal.returns-else-eq
returns-else-eq g c =
    lacks_row names_order g.T.Keyed.key_of c.args.name.now c.count_lesser-at.result c.index-rows-at.result c.args.rows.now c.count_lesser-at.ensures
    (λ _ e. names_differ c.key.result c.args.name.now (sym c.eq.ensures ∙ c.if-eq.false) (c.key.ensures ∙ ap g.T.Keyed.key_of c.index-rows-at.is ∙ e))

pub returns-else-at-rows : goal.returns-else-at-rows
returns-else-at-rows g c = lacks_end names_order g.T.Keyed.key_of c.args.name.now c.count_lesser-at.result c.args.rows.now c.count_lesser-at.ensures c.if-at-rows.false
