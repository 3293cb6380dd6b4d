use Rattle.std.proofs.Common.{◌≡◌, ◌<◌, length, get_or, refl, ◌∙◌, ap, arith}
use Rattle.std.proofs.lemmas.List.{length-map}
use Rattle.std.proofs.lemmas.Option.{slice_get_within, slice_get_read}
use Rattle.lg_gossip.specs.declared.choice.TakenRow.{TakenRow}
use Rattle.lg_gossip.specs.Support.Places.{IsRowOf}
use Rattle.lg_gossip.proofs.Counting.{count-none, count-next, sent-either}
use Rattle.lg_gossip.proofs.Each.{holds_at}
use Rattle.lg_gossip.proofs.choice.count_sends.Goals as goal

pub loop-row-init : goal.loop-row-init
loop-row-init c = record { rows = count-none c.args.rows.now.items; sets = c.requires.sets }

pub loop-row-preserved : goal.loop-row-preserved
loop-row-preserved c =
    let rows = c.args.rows.now.items in
    let now = c.loop-row.rows.items in
    let row = c.index_mut.result.now in
    let places = c.args.taken.now in
    let d : TakenRow = record { index = 0; sends = 0 } in
    let t = get_or places c.loop-row.row-index d in
    let one = holds_at (IsRowOf rows) c.loop-row.row-index d places c.loop-row-test.true c.requires.places in
    let long : length now ≡ length rows = ap length c.loop-row.invariant.rows ∙ length-map rows _ in
    let within : t.index < length now = omega (arith, long, slice_get_within rows t.index one.row one.stands) in
    let held = c.index_mut.ensures.value in
    let stands = slice_get_read now (length now) t.index row refl within held in
    let either = sent-either rows now _ row t one c.loop-row.invariant.rows held in
    record {
      rows =
          count-next rows now c.loop-row.row-index d row places c.loop-row-test.true c.requires.places c.requires.order
          c.loop-row.invariant.rows held;
      sets = c.move_row.ensures now row _ c.loop-row.invariant.sets stands either refl;
    }
