use Rattle.std.proofs.Common.{◌+◌, ◌<◌, get_or, insert, length, set, length-set, ◌∙◌, ap, add-one, arith, rules, take}
use Rattle.lg_rows.specs.Support.Places.{items_at, moved}
use Rattle.lg_rows.proofs.RowLaws.{length-row, row-inserted, placed-moved, place_within}
use Rattle.lg_rows.proofs.rows.Rows.insert.Goals as goal

pub bounds-self-inside-self-inside : goal.bounds-self-inside-self-inside
bounds-self-inside-self-inside g c =
    omega (arith, c.requires.room, ap (λ r. length r.items) c.self.view_is, length-row c.self.invariant)

pub put_at-requires : goal.put_at-requires
put_at-requires g c =
    let within : get_or c.self.inside.places c.self.inside.count 0 < length c.self.inside.items.items = place_within c.self.invariant c.self.inside.count
    (omega (arith, c.requires.room, ap (λ r. length r.items) c.self.view_is, length-row c.self.invariant)) in
    search rules

pub move_down-requires : goal.move_down-requires
move_down-requires g c =
    let long = ap (λ r. length r.items) c.self.view_is in
    record {
      order = omega (arith, c.requires.within, long, length-row c.self.invariant);
      within = omega (arith, c.requires.room, long, length-row c.self.invariant, c.self.told);
    }

pub invariant_of-self : goal.invariant_of-self
invariant_of-self g c =
    let free : c.self.inside.count < g.row.N = omega (arith, c.requires.room, ap (λ r. length r.items) c.self.view_is, length-row c.self.invariant) in
    rw c.move_down.ensures (placed-moved c.self.invariant c.self.inside.count c.args.index (c.self.inside.count + 1) c.put_at.new.items.items
    free (omega arith) (ap length c.put_at.ensures ∙ length-set c.self.inside.items.items (get_or c.self.inside.places c.self.inside.count 0) c.args.item))

pub returns : goal.returns
returns g c =
    let long = ap (λ r. length r.items) c.self.view_is in
    let free : c.self.inside.count < g.row.N = omega (arith, c.requires.room, long, length-row c.self.invariant) in
    ap (λ xs. items_at xs (take (c.self.inside.count + 1) c.move_down.new.places)) c.put_at.ensures
    ∙ ap (items_at (set c.self.inside.items.items (get_or c.self.inside.places c.self.inside.count 0) c.args.item)) (ap (take (c.self.inside.count + 1)) c.move_down.ensures ∙ ap (λ n. take n (moved c.self.inside.places c.self.inside.count c.args.index)) (add-one c.self.inside.count))
    ∙ row-inserted c.self.invariant c.args.item free c.args.index (omega (arith, c.requires.within, long, length-row c.self.invariant))
    ∙ ap (λ r. insert r.items c.args.index c.args.item) c.self.view_is
