use Rattle.std.proofs.Common.{◌-◌, ap, ◌∙◌, refl, remove, take, arith}
use Rattle.lg_rows.specs.Support.Places.{items_at}
use Rattle.lg_rows.proofs.RowLaws.{row-length, row-removed, placed-moved}
use Rattle.lg_rows.proofs.rows.Rows.remove.Goals as goal

pub move_up-requires-clause-order : goal.move_up-requires-clause-order
move_up-requires-clause-order g c = omega (arith, c.requires, row-length c.self.invariant c.args.self.now c.self.view_is)

pub invariant_of-self : goal.invariant_of-self
invariant_of-self g c =
    let long = row-length c.self.invariant c.args.self.now c.self.view_is in
    rw c.move_up.ensures (placed-moved c.self.invariant c.args.index (c.self.inside.count - 1) (c.self.inside.count - 1) c.self.inside.items.items
    (omega (arith, c.requires, long, c.self.invariant.few)) (omega (arith, c.self.invariant.few)) refl)

pub returns : goal.returns
returns g c =
    let long = row-length c.self.invariant c.args.self.now c.self.view_is in
    ap (λ places. items_at c.self.inside.items.items (take (c.self.inside.count - 1) places)) c.move_up.ensures
    ∙ row-removed c.self.invariant c.args.index (c.self.inside.count - 1) (omega (arith, c.requires, long)) (omega (arith, c.requires, long))
    ∙ ap (λ r. remove r.items c.args.index) c.self.view_is
