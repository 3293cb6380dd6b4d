use Rattle.std.proofs.Common.{◌<◌, get_or, sym, ap, ◌∙◌, arith, rules}
use Rattle.lg_rows.proofs.RowLaws.{row-length, row_at_index}
use Rattle.lg_rows.proofs.rows.RowsIndexUsize.index.Goals as goal

pub offset_bounds-self-inside-index : goal.offset_bounds-self-inside-index
offset_bounds-self-inside-index g c =
    let below : c.args.index < c.self.inside.count = omega (arith, c.requires, row-length c.self.invariant c.args.self.now c.self.view_is) in
    search rules

pub bounds-self-inside-index : goal.bounds-self-inside-index
bounds-self-inside-index g c =
    omega (arith, c.requires, row-length c.self.invariant c.args.self.now c.self.view_is, c.self.invariant.few)

pub returns : goal.returns
returns g c =
    let x = c.index-deref-from.result in
    let below : c.args.index < c.self.inside.count = omega (arith, c.requires, row-length c.self.invariant c.args.self.now c.self.view_is) in
    c.index-deref-from.is
    ∙ ap (λ place. get_or c.deref.result.now place x) c.from.ensures
    ∙ ap (λ xs. get_or xs (get_or c.self.inside.places c.args.index 0) x) c.deref.ensures.0
    ∙ sym (row_at_index c.self.invariant c.args.index x below)
    ∙ ap (λ r. get_or r.items c.args.index x) c.self.view_is
