use Rattle.std.proofs.Common.{◌<◌, length, refl, sym, arith, rules}
use Rattle.std.proofs.lemmas.Option.{slice_get_read, slice_get_past}
use Rattle.lg_rows.proofs.RowLaws.{row-length}
use Rattle.lg_rows.proofs.rows.Rows.get.Goals as goal

pub index-requires : goal.index-requires
index-requires g c =
    let below : c.args.index < length c.args.self.now.items = omega (arith, c.if-index-self.true, row-length c.self.invariant c.args.self.now c.self.view_is) in
    search rules

pub returns-then-index-self : goal.returns-then-index-self
returns-then-index-self g c =
    let xs = c.args.self.now.items in
    let below : c.args.index < length xs = omega (arith, c.if-index-self.true, row-length c.self.invariant c.args.self.now c.self.view_is) in
    sym (slice_get_read xs (length xs) c.args.index c.index.result.now refl below c.index.ensures)

pub returns-else-index-self : goal.returns-else-index-self
returns-else-index-self g c =
    sym (slice_get_past c.args.self.now.items c.args.index (omega (arith, c.if-index-self.false, row-length c.self.invariant c.args.self.now c.self.view_is)))
