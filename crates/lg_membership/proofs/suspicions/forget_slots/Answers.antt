use Rattle.std.proofs.Common.{◌<◌, length, set, ◌∙◌, ap, arith, get_or}
use Rattle.std.proofs.lemmas.List.{get_or_default}
use Rattle.std.proofs.lemmas.List.Edits.{map_over_more}
use Rattle.lg_membership.specs.declared.suspected.Suspected.{Suspected}
use Rattle.lg_membership.specs.Support.Rows.{row_without}
use Rattle.lg_membership.proofs.suspicions.forget_slots.Goals as goal

pub loop-suspected-preserved : goal.loop-suspected-preserved
loop-suspected-preserved c =
    let was = c.args.suspicions.now in
    let now = c.loop-suspected.suspicions in
    let i = c.loop-suspected.suspected-index in
    let d = c.suspected-item.result in
    let x = get_or now i d in
    let within : i < length now = omega (arith, c.loop-suspected-test.true, c.loop-suspected.auto.suspicions) in
    ap (λ (y : Suspected). set now i y) c.forget_slot.ensures
    ∙ map_over_more (row_without c.args.slot c.args.name.now) was now i x c.loop-suspected-test.true c.loop-suspected.invariant
    (get_or_default now i d x within)
