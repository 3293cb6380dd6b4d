use Rattle.std.proofs.Common.{◌<◌, length, set, ◌∙◌, ap, arith, get_or}
use Rattle.std.proofs.lemmas.List.{get_or_default}
use Rattle.std.proofs.lemmas.List.Edits.{map_over_more}
use Rattle.lg_rules.specs.Support.Slots.{moved_up}
use Rattle.lg_rules.proofs.slots.move_up.Goals as goal

pub loop-index-preserved : goal.loop-index-preserved
loop-index-preserved c =
    let was = c.args.indexes.now in
    let now = c.loop-index.indexes in
    let i = c.loop-index.index-index in
    let x = get_or now i 0 in
    let within : i < length now = omega (arith, c.loop-index-test.true, c.loop-index.auto.indexes) in
    ap (set now i) c.moved_up.ensures
    ∙ map_over_more (moved_up c.args.at) was now i x c.loop-index-test.true c.loop-index.invariant
    (get_or_default now i 0 x within)
