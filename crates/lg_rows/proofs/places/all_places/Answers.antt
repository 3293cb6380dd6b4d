use Rattle.std.specs.List.{range_with_len}
use Rattle.std.proofs.Common.{◌<◌, ◌≢◌, length, length-set, sym, ◌∙◌, zero-add, arith, below_more, get_or-set_other, get_or-set_same}
use Rattle.std.proofs.lemmas.Grind.{same_number_lists}
use Rattle.std.proofs.lemmas.List.FromFn.{get_or-range_with_len, length-range_with_len}
use Rattle.lg_rows.proofs.places.all_places.Goals as goal

pub loop-place-preserved : goal.loop-place-preserved
loop-place-preserved g c =
    let i = c.loop-place.invariant in
    record {
      long = length-set c.loop-place.places c.loop-place.place c.loop-place.place ∙ i.long;
      told = below_more _ _
          (λ k h. let ne : k ≢ c.loop-place.place = omega arith in rw get_or-set_other (i.told k h))
          (let lt : c.loop-place.place < length c.loop-place.places = omega (arith, i.long, c.loop-place-test.true) in rw get_or-set_same);
    }

pub returns : goal.returns
returns g c =
    let i = c.loop-place.invariant in
    same_number_lists c.loop-place.places (range_with_len 0 g.row.N) (i.long ∙ sym (length-range_with_len 0 g.row.N)) (λ k l.
    let below : k < g.row.N = omega (arith, l, i.long) in
    i.told k (omega (arith, below, c.loop-place-test.false)) ∙ sym (get_or-range_with_len 0 g.row.N k 0 below ∙ zero-add k))
