use Rattle.std.proofs.Common.{ℕ, ◌<◌, List, length, remove, sym, ◌∙◌, ap, subst, arith}
use Rattle.std.specs.List.{All}
use Rattle.lg_rules.proofs.RowsFound.{filter-none}
use Rattle.lg_timers.specs.Meaning.Timers.{has_id, without_timer, in_turn}
use Rattle.lg_timers.specs.Support.Slots.{timer_in, timers_in, AreBothRows}
use Rattle.lg_timers.proofs.RowLaws.{rows-within, rows-apart, rows-set, row-used, row-within, rows-removed}
use Rattle.lg_timers.proofs.SetLaws.{others_left}
use Rattle.lg_timers.proofs.SlotLaws.{has_along, lacks_along, has_set, slot_before}
use Rattle.lg_timers.proofs.indexed_heap.IndexedHeap.cancel_with.Goals as goal

pub index_of-requires-clause-within : goal.index_of-requires-clause-within
index_of-requires-clause-within g c =
    let h = c.self.inside.heap in
    subst (λ (xs : List ℕ). All (λ s. s < length c.self.inside.timers) xs) (sym c.deref.ensures.0)
    (rows-within c.self.invariant)

pub remove-requires-clause-slot : goal.remove-requires-clause-slot
remove-requires-clause-slot g c =
    let h = c.self.inside.heap in
    omega (arith, c.self.invariant.kept.full, row-within c.self.invariant c.in-Ok.at c.remove-slot.result (has_along c.self.inside.by_id.items c.deref.ensures.0 c.in-Ok.ensures).within c.remove-slot.ensures.value)

pub remove-requires-clause-used : goal.remove-requires-clause-used
remove-requires-clause-used g c =
    let h = c.self.inside.heap in
    (row-used c.self.invariant c.in-Ok.at c.remove-slot.result (has_along c.self.inside.by_id.items c.deref.ensures.0 c.in-Ok.ensures).within c.remove-slot.ensures.value).used

pub remove-requires-clause-placed : goal.remove-requires-clause-placed
remove-requires-clause-placed g c =
    let h = c.self.inside.heap in
    (row-used c.self.invariant c.in-Ok.at c.remove-slot.result (has_along c.self.inside.by_id.items c.deref.ensures.0 c.in-Ok.ensures).within c.remove-slot.ensures.value).placed

pub invariant_of-self : goal.invariant_of-self
invariant_of-self g c =
    let t = c.self.inside.timers in
    let h = c.self.inside.heap in
    let by_id = c.self.inside.by_id.items in
    let at = c.in-Ok.at in
    let has = has_along by_id c.deref.ensures.0 c.in-Ok.ensures in
    subst (λ (xs : List ℕ). AreBothRows t c.remove.new.self.slots c.remove.new.self.places c.remove.new.self.count xs) (sym c.remove-slot.ensures.items)
    (rows-removed c.self.invariant at c.remove-slot.result c.remove.new.self.count c.remove.new.self.slots c.remove.new.self.places has.within c.remove-slot.ensures.value c.remove.ensures.slots c.remove.ensures.heap c.remove.ensures.moved)

pub returns-in-Ok-clause-was_set : goal.returns-in-Ok-clause-was_set
returns-in-Ok-clause-was_set g c =
    let h = c.self.inside.heap in
    let by_id = c.self.inside.by_id.items in
    sym (rows-set c.self.invariant c.args.id.now c.args.self.now c.self.view_is ∙ has_set (has_along c.self.inside.by_id.items c.deref.ensures.0 c.in-Ok.ensures))

pub returns-in-Ok-clause-others : goal.returns-in-Ok-clause-others
returns-in-Ok-clause-others g c =
    let t = c.self.inside.timers in
    let h = c.self.inside.heap in
    let by_id = c.self.inside.by_id.items in
    let slot = c.remove-slot.result in
    ap (λ ss. in_turn (timers_in t ss)) c.remove-slot.ensures.items
    ∙ others_left c.args.id.now (timer_in t slot) (timers_in t (remove by_id c.in-Ok.at)) (timers_in t by_id) (rows-apart c.self.invariant) (slot_before (has_along by_id c.deref.ensures.0 c.in-Ok.ensures) slot c.remove-slot.ensures.value)
    ∙ ap (without_timer c.args.id.now) c.self.view_is

pub returns-in-Err-clause-was_set : goal.returns-in-Err-clause-was_set
returns-in-Err-clause-was_set g c =
    let t = c.self.inside.timers in
    let h = c.self.inside.heap in
    let by_id = c.self.inside.by_id.items in
    let lacks = lacks_along by_id c.deref.ensures.0 c.in-Err.ensures in
    sym (rows-set c.self.invariant c.args.id.now c.args.self.now c.self.view_is ∙ lacks.unset)

pub returns-in-Err-clause-others : goal.returns-in-Err-clause-others
returns-in-Err-clause-others g c =
    let t = c.self.inside.timers in
    let h = c.self.inside.heap in
    let by_id = c.self.inside.by_id.items in
    let lacks = lacks_along by_id c.deref.ensures.0 c.in-Err.ensures in
    sym (filter-none (has_id c.args.id.now) c.args.self.now (rows-set c.self.invariant c.args.id.now c.args.self.now c.self.view_is ∙ lacks.unset))
