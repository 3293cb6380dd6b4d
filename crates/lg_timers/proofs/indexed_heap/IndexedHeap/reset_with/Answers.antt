use Rattle.std.proofs.Common.{◌≡◌, ℕ, ◌+◌, ◌<◌, List, length, get_or, set, insert, sym, ◌∙◌, ap, subst, arith, lit<}
use Rattle.std.specs.List.{All}
use Rattle.std.proofs.lemmas.List.{get_or_default}
use Rattle.lg_rules.proofs.RowsFound.{filter-none}
use Rattle.lg_timers.specs.declared.timer.Timer.{Timer}
use Rattle.lg_timers.specs.Meaning.Timers.{has_id, with_timer, without_timer, in_turn}
use Rattle.lg_timers.specs.Support.Heap.{IsHeapAround}
use Rattle.lg_timers.specs.Support.Slots.{timers_in, timer_at, AreBothRows}
use Rattle.lg_timers.proofs.ReplaceLaws.{replaced-used, replaced-around, rows-replaced, in_turn-replaced}
use Rattle.lg_timers.proofs.RowLaws.{rows-within, rows-set, rows-room, rows-long, row-within, free-heap, free-view, rows-added}
use Rattle.lg_timers.proofs.SlotLaws.{has_along, lacks_along, lacks-row}
use Rattle.lg_timers.proofs.indexed_heap.IndexedHeap.reset_with.Goals as goal

pub index_of-requires-clause-within : goal.index_of-requires-clause-within
index_of-requires-clause-within g c =
    subst (λ (xs : List ℕ). All (λ s. s < length c.self.inside.timers) xs) (sym c.deref.ensures.0) (rows-within c.self.invariant)

-- the slot that was read at an index of the row of ids
slot_at : (read by_id : List ℕ) (at slot : ℕ) → read ≡ by_id → at < length by_id → slot ≡ get_or read at 0 → slot ≡ get_or by_id at slot
slot_at read by_id at slot same within is = is ∙ ap (λ xs. get_or xs at 0) same ∙ get_or_default by_id at 0 slot within

pub listed : goal.listed
listed g c =
    let by_id = c.self.inside.by_id.items in
    let has = has_along by_id c.deref.ensures.0 c.in-Ok.ensures in
    row-within c.self.invariant c.in-Ok.at c.from.result has.within (slot_at c.deref-in-Ok.result.now by_id c.in-Ok.at c.from.result c.deref-in-Ok.ensures.0 has.within c.from.ensures)

pub bounds-self-inside-from : goal.bounds-self-inside-from
bounds-self-inside-from g c =
    let by_id = c.self.inside.by_id.items in
    let has = has_along by_id c.deref.ensures.0 c.in-Ok.ensures in
    let read = slot_at c.deref-in-Ok.result.now by_id c.in-Ok.at c.from.result c.deref-in-Ok.ensures.0 has.within c.from.ensures in
    omega (arith, c.self.invariant.kept.full, row-within c.self.invariant c.in-Ok.at c.from.result has.within read)

pub replace-requires-clause-slot : goal.replace-requires-clause-slot
replace-requires-clause-slot g c =
    let by_id = c.self.inside.by_id.items in
    let has = has_along by_id c.deref.ensures.0 c.in-Ok.ensures in
    let read = slot_at c.deref-in-Ok.result.now by_id c.in-Ok.at c.from.result c.deref-in-Ok.ensures.0 has.within c.from.ensures in
    omega (arith, c.from.ensures, c.self.invariant.kept.full, row-within c.self.invariant c.in-Ok.at c.from.result has.within read)

pub replace-requires-clause-used : goal.replace-requires-clause-used
replace-requires-clause-used g c =
    let h = c.self.inside.heap in
    let by_id = c.self.inside.by_id.items in
    let has = has_along by_id c.deref.ensures.0 c.in-Ok.ensures in
    let read = slot_at c.deref-in-Ok.result.now by_id c.in-Ok.at c.from.result c.deref-in-Ok.ensures.0 has.within c.from.ensures in
    subst (λ (s : ℕ). get_or h.places s 0 < h.count) c.from.ensures (replaced-used c.self.invariant c.args.timer has c.from.result read).used

pub replace-requires-clause-around : goal.replace-requires-clause-around
replace-requires-clause-around g c =
    let h = c.self.inside.heap in
    let by_id = c.self.inside.by_id.items in
    let has = has_along by_id c.deref.ensures.0 c.in-Ok.ensures in
    let read = slot_at c.deref-in-Ok.result.now by_id c.in-Ok.at c.from.result c.deref-in-Ok.ensures.0 has.within c.from.ensures in
    subst (λ (s : ℕ). IsHeapAround (timer_at (set c.self.inside.timers c.from.result c.args.timer) h.slots) h.count (get_or h.places s 0)) c.from.ensures (replaced-around c.self.invariant c.args.timer has c.from.result read)

pub invariant_of-self : goal.invariant_of-self
invariant_of-self g c =
    let by_id = c.self.inside.by_id.items in
    let has = has_along by_id c.deref.ensures.0 c.in-Ok.ensures in
    let read = slot_at c.deref-in-Ok.result.now by_id c.in-Ok.at c.from.result c.deref-in-Ok.ensures.0 has.within c.from.ensures in
    subst (λ (n : ℕ). AreBothRows (set c.self.inside.timers c.from.result c.args.timer) c.replace.new.self.slots c.replace.new.self.places n by_id) (sym c.replace.ensures.count)
    (rows-replaced c.self.invariant c.args.timer has c.from.result read c.replace.new.self.slots c.replace.new.self.places c.replace.ensures.settled)

pub returns-in-Ok-clause-set : goal.returns-in-Ok-clause-set
returns-in-Ok-clause-set g c =
    let by_id = c.self.inside.by_id.items in
    let has = has_along by_id c.deref.ensures.0 c.in-Ok.ensures in
    let read = slot_at c.deref-in-Ok.result.now by_id c.in-Ok.at c.from.result c.deref-in-Ok.ensures.0 has.within c.from.ensures in
    in_turn-replaced c.self.invariant c.args.timer has c.from.result read ∙ ap (λ ts. with_timer c.args.timer (without_timer c.args.timer.id ts)) c.self.view_is

pub free_slot-slot-requires : goal.free_slot-slot-requires
free_slot-slot-requires g c =
    let lacks = lacks_along c.self.inside.by_id.items c.deref.ensures.0 c.in-Err.ensures in
    rows-room c.self.invariant c.args.self.now c.self.view_is (c.requires.room (rows-set c.self.invariant c.args.timer.id c.args.self.now c.self.view_is ∙ lacks.unset))

pub insert-requires : goal.insert-requires
insert-requires g c =
    let by_id = c.self.inside.by_id.items in
    let lacks = lacks_along by_id c.deref.ensures.0 c.in-Err.ensures in
    let room : c.self.inside.heap.count < 400 = rows-room c.self.invariant c.args.self.now c.self.view_is (c.requires.room (rows-set c.self.invariant c.args.timer.id c.args.self.now c.self.view_is ∙ lacks.unset)) in
    let few : length by_id < 400 = omega (arith, room, rows-long c.self.invariant) in
    (lit< tt, ((lacks-row lacks).within, few))

pub add-requires-clause-free : goal.add-requires-clause-free
add-requires-clause-free g c =
    let lacks = lacks_along c.self.inside.by_id.items c.deref.ensures.0 c.in-Err.ensures in
    rows-room c.self.invariant c.args.self.now c.self.view_is (c.requires.room (rows-set c.self.invariant c.args.timer.id c.args.self.now c.self.view_is ∙ lacks.unset))

pub add-requires-clause-heap : goal.add-requires-clause-heap
add-requires-clause-heap g c =
    let lacks = lacks_along c.self.inside.by_id.items c.deref.ensures.0 c.in-Err.ensures in
    let room : c.self.inside.heap.count < 400 = rows-room c.self.invariant c.args.self.now c.self.view_is (c.requires.room (rows-set c.self.invariant c.args.timer.id c.args.self.now c.self.view_is ∙ lacks.unset)) in
    free-heap c.self.invariant c.from-in-Err.result (c.from-in-Err.ensures ∙ c.free_slot-slot.ensures) room c.args.timer

pub invariant_of-self-in-Err : goal.invariant_of-self-in-Err
invariant_of-self-in-Err g c =
    let by_id = c.self.inside.by_id.items in
    let slot = c.from-in-Err.result in
    let at = c.in-Err.at in
    let changed : List Timer = set c.self.inside.timers slot c.args.timer in
    let ss = c.add.new.self.slots in
    let ps = c.add.new.self.places in
    let lacks = lacks_along by_id c.deref.ensures.0 c.in-Err.ensures in
    let room : c.self.inside.heap.count < 400 = rows-room c.self.invariant c.args.self.now c.self.view_is (c.requires.room (rows-set c.self.invariant c.args.timer.id c.args.self.now c.self.view_is ∙ lacks.unset)) in
    let added : AreBothRows changed ss ps (c.self.inside.heap.count + 1) (insert by_id at slot) = rows-added c.self.invariant slot (c.from-in-Err.ensures ∙ c.free_slot-slot.ensures) room c.args.timer at ss ps lacks c.add.ensures.settled in
    let items : c.insert.new.self.items ≡ insert by_id at slot = c.insert.ensures.items ∙ ap (insert by_id at) (sym c.from-in-Err.ensures) in
    subst (λ (xs : List ℕ). AreBothRows changed ss ps c.add.new.self.count xs) (sym items) (subst (λ (n : ℕ). AreBothRows changed ss ps n (insert by_id at slot)) (sym c.add.ensures.count) added)

pub returns-in-Err-clause-set : goal.returns-in-Err-clause-set
returns-in-Err-clause-set g c =
    let by_id = c.self.inside.by_id.items in
    let slot = c.from-in-Err.result in
    let lacks = lacks_along by_id c.deref.ensures.0 c.in-Err.ensures in
    let unset = rows-set c.self.invariant c.args.timer.id c.args.self.now c.self.view_is ∙ lacks.unset in
    let room : c.self.inside.heap.count < 400 = rows-room c.self.invariant c.args.self.now c.self.view_is (c.requires.room unset) in
    ap (λ ss. in_turn (timers_in (set c.self.inside.timers slot c.args.timer) ss)) (c.insert.ensures.items ∙ ap (insert by_id c.in-Err.at) (sym c.from-in-Err.ensures))
    ∙ free-view c.self.invariant slot (c.from-in-Err.ensures ∙ c.free_slot-slot.ensures) room c.args.timer c.in-Err.at
    ∙ ap (with_timer c.args.timer) (c.self.view_is ∙ sym (filter-none (has_id c.args.timer.id) c.args.self.now unset))
