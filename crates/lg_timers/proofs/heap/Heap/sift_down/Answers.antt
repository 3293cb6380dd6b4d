use Rattle.std.proofs.Common.{◌≤◌, ℕ, length, sym, ◌∙◌, refl, arith, subst}
use Rattle.std.proofs.lemmas.List.Sorted.{IsPermutation-refl}
use Rattle.lg_timers.specs.Support.Heap.{IsFirstBelow}
use Rattle.lg_timers.specs.Support.Slots.{timer_at}
use Rattle.lg_timers.proofs.HeapLaws.{down_done, down_step, none_below, nothing_below}
use Rattle.lg_timers.proofs.Levels.{start_down, one_down}
use Rattle.lg_timers.proofs.SiftLaws.{timers-swapped, swap-moved}
use Rattle.lg_timers.proofs.heap.Heap.sift_down.Goals as goal

pub loop-place-init : goal.loop-place-init
loop-place-init g c =
    record {
      slots = c.requires.slots;
      count = refl;
      moved = IsPermutation-refl _;
      within = c.requires.within;
      below = c.requires.below;
      rises = omega arith;
      levels = (8, start_down c.args.place c.args.self.now.count c.requires.slots.few, omega arith);
    }

pub loop-place-preserved : goal.loop-place-preserved
loop-place-preserved g c =
    let i = c.loop-place.invariant in
    let place = c.loop-place.place in
    let child = c.first_below-child.result in
    let slots = c.loop-place.self.slots in
    let after = c.exchange.new.self.slots in
    let count = c.args.self.now.count in
    let few : count ≤ length slots = omega (arith, i.slots.few, i.slots.placed.long) in
    let first : IsFirstBelow (timer_at c.args.timers.now slots) count place child = subst (λ (n : ℕ). IsFirstBelow (timer_at c.args.timers.now slots) n place child) i.count c.first_below-child.ensures.first in
    let levels = one_down i.levels.0 place child count (omega (arith, c.loop-place-test.true, i.count)) first.below first.after i.levels.1 in
    record {
      slots = record { full = i.slots.full; placed = c.exchange.ensures.placed; few = i.slots.few };
      count = c.exchange.ensures.count ∙ i.count;
      moved = swap-moved c.args.timers.now slots after count place child few i.within first.within c.exchange.ensures.swapped c.args.self.now.slots i.moved;
      within = first.within;
      below = down_step (timer_at c.args.timers.now slots) (timer_at c.args.timers.now after) count place child (timers-swapped c.args.timers.now slots after count place child few i.within first.within c.exchange.ensures.swapped) first i.below (sym c.is_before.ensures.before ∙ c.if-not-is_before.false);
      rises = omega (arith, c.first_below-child.ensures.rises, c.is_before.ensures.counted, i.rises);
      levels = (levels.0, levels.2, omega (arith, levels.1, c.first_below-child.ensures.counted, c.is_before.ensures.counted, c.is_before.ensures.once, i.levels.2));
    }

pub returns-then-not-is_before-clause-settled : goal.returns-then-not-is_before-clause-settled
returns-then-not-is_before-clause-settled g c =
    let i = c.loop-place.invariant in
    let place = c.loop-place.place in
    let child = c.first_below-child.result in
    let slots = c.loop-place.self.slots in
    let count = c.args.self.now.count in
    let first : IsFirstBelow (timer_at c.args.timers.now slots) count place child = subst (λ (n : ℕ). IsFirstBelow (timer_at c.args.timers.now slots) n place child) i.count c.first_below-child.ensures.first in
    record {
      kept = i.slots;
      moved = i.moved;
      heap = down_done (timer_at c.args.timers.now slots) count place i.below (none_below (timer_at c.args.timers.now slots) count place child first (sym c.is_before.ensures.before ∙ c.if-not-is_before.true));
    }

pub returns-then-not-is_before-clause-counted : goal.returns-then-not-is_before-clause-counted
returns-then-not-is_before-clause-counted g c =
    let i = c.loop-place.invariant in
    let place = c.loop-place.place in
    let child = c.first_below-child.result in
    let slots = c.loop-place.self.slots in
    let count = c.args.self.now.count in
    let first : IsFirstBelow (timer_at c.args.timers.now slots) count place child = subst (λ (n : ℕ). IsFirstBelow (timer_at c.args.timers.now slots) n place child) i.count c.first_below-child.ensures.first in
    let levels = one_down i.levels.0 place child count (omega (arith, c.loop-place-test.true, i.count)) first.below first.after i.levels.1 in
    omega (arith, levels.1, c.first_below-child.ensures.counted, c.is_before.ensures.counted, c.is_before.ensures.once, i.levels.2)

pub returns-clause-settled : goal.returns-clause-settled
returns-clause-settled g c =
    let i = c.loop-place.invariant in
    let count = c.args.self.now.count in
    record {
      kept = i.slots;
      moved = i.moved;
      heap = down_done (timer_at c.args.timers.now c.loop-place.self.slots) count c.loop-place.place i.below (λ j under jp jl. absurd (nothing_below count c.loop-place.place j (omega (arith, c.loop-place-test.false, i.count)) under jp jl));
    }
