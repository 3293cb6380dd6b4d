use Rattle.std.proofs.Common.{◌≡◌, ℕ, ◌<◌, Option, Some, None, get_or, sym, ◌∙◌, ap, arith}
use Rattle.std.specs.Option.{option_copied}
use Rattle.lg_timers.specs.Meaning.Timers.{least_of}
use Rattle.lg_timers.specs.Support.Slots.{timer_in}
use Rattle.lg_timers.proofs.HeapLaws.{same_or, above_zero}
use Rattle.lg_timers.proofs.RowLaws.{rows-least, rows-least_none}
use Rattle.lg_timers.proofs.SlotLaws.{timer_read}
use Rattle.lg_timers.proofs.indexed_heap.IndexedHeap.first.Goals as goal

-- where there is no first slot, none is in use
none_used : (count slot : ℕ) (first : Option ℕ) → first ≡ None → (0 < count → first ≡ Some slot) → count ≡ 0
none_used count slot first none some = same_or count 0 (λ e. e) (λ other. absurd (differ (sym none ∙ some (above_zero count other))))
  where
    differ : None ≡ Some slot → ⊥
    differ e = cc

some_used : (count slot : ℕ) (first : Option ℕ) → first ≡ Some slot → (count ≡ 0 → first ≡ None) → 0 < count
some_used count slot first some none = same_or count 0 (λ e. absurd (differ (sym some ∙ none e))) (above_zero count)
  where
    differ : Some slot ≡ None → ⊥
    differ e = cc

same_slot : (slot other : ℕ) → Some slot ≡ Some other → slot ≡ other
same_slot slot other e = cc

pub returns-in_err-slot : goal.returns-in_err-slot
returns-in_err-slot c =
    let h = c.self.inside.heap in
    ap option_copied c.from_residual.ensures
    ∙ sym (ap least_of (sym c.self.view_is) ∙ rows-least_none c.self.invariant (none_used h.count (get_or h.slots 0 0) c.first.result c.in_err-slot.was c.first.ensures.some))

pub returns : goal.returns
returns c =
    let h = c.self.inside.heap in
    let timers = c.self.inside.timers in
    let used : 0 < h.count = some_used h.count c.in_ok-slot.slot c.first.result c.in_ok-slot.was c.first.ensures.none in
    let first : c.in_ok-slot.slot ≡ get_or h.slots 0 0 = same_slot c.in_ok-slot.slot (get_or h.slots 0 0) (sym c.in_ok-slot.was ∙ c.first.ensures.some used) in
    let is : timer_in timers (get_or h.slots 0 0) ≡ c.index-self-from.result = timer_read timers c.from.result (get_or h.slots 0 0) c.index-self-from.result (c.from.ensures ∙ first) (omega (arith, c.self.invariant.kept.full, c.self.invariant.kept.placed.within 0 (omega arith))) c.index-self-from.is in
    sym (ap least_of (sym c.self.view_is) ∙ rows-least c.self.invariant used ∙ ap Some (is ∙ c.index-self-from.is))
