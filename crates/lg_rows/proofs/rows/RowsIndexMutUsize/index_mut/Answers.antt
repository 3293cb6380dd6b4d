use Rattle.std.proofs.Common.{◌<◌, get_or, set, take, refl, sym, ap, ◌∙◌, arith, rules}
use Rattle.lg_rows.specs.Support.Places.{items_at}
use Rattle.lg_rows.proofs.RowLaws.{row-length, row_at_index, row-set}
use Rattle.lg_rows.proofs.rows.RowsIndexMutUsize.index_mut.Goals as goal

pub offset_bounds-places-index : goal.offset_bounds-places-index
offset_bounds-places-index g c =
    let below : c.args.index < c.self.inside.count = omega (arith, c.requires, row-length c.self.invariant c.args.self.now c.self.view_is) in
    search rules

pub bounds-places-index : goal.bounds-places-index
bounds-places-index g c =
    omega (arith, c.requires, row-length c.self.invariant c.args.self.now c.self.view_is, c.self.invariant.few)

pub returns : goal.returns
returns g c =
    let inside = c.self.inside in
    let i = c.args.index in
    let x = c.unwrap.result.now in
    let below : i < inside.count = omega (arith, c.requires, row-length c.self.invariant c.args.self.now c.self.view_is) in
    let read = rw c.unwrap.ensures at c.get_mut.ensures.value in
    let written = λ (w : g.row.T.Denot).
    ap (λ p. items_at (set inside.items.items p w) (take inside.count inside.places)) c.from-place.ensures
    ∙ row-set c.self.invariant i w below
    ∙ ap (λ r. set r.items i w) c.self.view_is
    in (
      (refl {a = c.unwrap.result.ghost_name}, λ w j. record { items = written w j }),
      record {
        writes_back = tt;
        value = read
            ∙ ap (λ p. get_or inside.items.items p x) c.from-place.ensures
            ∙ sym (row_at_index c.self.invariant i x below)
            ∙ ap (λ r. get_or r.items i x) c.self.view_is;
      },
    )
