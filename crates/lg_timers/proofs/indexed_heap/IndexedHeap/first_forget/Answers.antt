use Rattle.std.proofs.Common.{◌<◌, length, get_or, refl, sym, ◌∙◌, ap, arith}
use Rattle.std.proofs.lemmas.List.{get_or_default}
use Rattle.lg_timers.specs.Meaning.Timers.{in_turn}
use Rattle.lg_timers.specs.Support.InTurn.{earlier_forget}
use Rattle.lg_timers.proofs.Forgetting.{first-next}
use Rattle.lg_timers.proofs.RowLaws.{row-within}
use Rattle.lg_timers.proofs.SlotLaws.{timer_read}
use Rattle.lg_timers.proofs.indexed_heap.IndexedHeap.first_forget.Goals as goal

pub loop-slot-init : goal.loop-slot-init
unfolding in_turn
loop-slot-init c = refl

pub listed : goal.listed
listed c =
    let by_id = c.self.inside.by_id.items in
    let i = c.loop-slot.slot-index in
    let within : i < length by_id = omega (arith, ap length c.as_slice-slot-items.ensures.value, c.loop-slot-test.true) in
    let is = c.from.ensures ∙ ap (λ slots. get_or slots i 0) c.as_slice-slot-items.ensures.value in
    row-within c.self.invariant i c.from.result within (is ∙ get_or_default by_id i 0 c.from.result within)

pub bounds-self-inside-from : goal.bounds-self-inside-from
bounds-self-inside-from c = omega (arith, listed c, c.self.invariant.kept.full)

pub loop-slot-preserved : goal.loop-slot-preserved
loop-slot-preserved c =
    let timers = c.self.inside.timers in
    let by_id = c.self.inside.by_id.items in
    let i = c.loop-slot.slot-index in
    let within : i < length by_id = omega (arith, ap length c.as_slice-slot-items.ensures.value, c.loop-slot-test.true) in
    let slot = c.from.ensures ∙ ap (λ slots. get_or slots i 0) c.as_slice-slot-items.ensures.value in
    let listed : c.from.result < length timers = row-within c.self.invariant i c.from.result within (slot ∙ get_or_default by_id i 0 c.from.result within) in
    let is = timer_read timers c.from.result c.from.result c.index-self-from.result refl listed c.index-self-from.is in
    c.earlier_forget-first.ensures
    ∙ ap (earlier_forget c.loop-slot.first) (sym c.index-self-from.is)
    ∙ first-next timers by_id i c.from.result c.index-self-from.result c.loop-slot.first within slot is c.loop-slot.invariant
