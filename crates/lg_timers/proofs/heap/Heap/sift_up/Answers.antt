use Rattle.std.proofs.Common.{◌<◌, ◌≤◌, length, sym, ◌∙◌, refl, arith}
use Rattle.std.proofs.lemmas.List.Sorted.{IsPermutation-refl}
use Rattle.lg_timers.specs.Support.Heap.{parent}
use Rattle.lg_timers.specs.Support.Slots.{timer_at}
use Rattle.lg_timers.proofs.HeapLaws.{up_done, up_step}
use Rattle.lg_timers.proofs.Levels.{start_up, one_up}
use Rattle.lg_timers.proofs.SiftLaws.{timers-swapped, swap-moved}
use Rattle.lg_timers.proofs.heap.Heap.sift_up.Goals as goal

pub loop-place-init : goal.loop-place-init
loop-place-init g c =
    record {
      slots = c.requires.slots;
      count = refl;
      moved = IsPermutation-refl _;
      within = c.requires.within;
      above = c.requires.above;
      rises = omega arith;
      levels = (8, start_up c.args.place (omega (arith, c.requires.within, c.requires.slots.few)), omega arith);
    }

pub loop-place-preserved : goal.loop-place-preserved
loop-place-preserved g c =
    let i = c.loop-place.invariant in
    let place = c.loop-place.place in
    let slots = c.loop-place.self.slots in
    let after = c.exchange.new.self.slots in
    let count = c.args.self.now.count in
    let few : count ≤ length slots = omega (arith, i.slots.few, i.slots.placed.long) in
    let up : parent place < count = omega (arith, i.within) in
    let levels = one_up i.levels.0 place c.loop-place-test.true i.levels.1 in
    record {
      slots = record { full = i.slots.full; placed = c.exchange.ensures.placed; few = i.slots.few };
      count = c.exchange.ensures.count ∙ i.count;
      moved = swap-moved c.args.timers.now slots after count (parent place) place few up i.within c.exchange.ensures.swapped c.args.self.now.slots i.moved;
      within = up;
      above = up_step (timer_at c.args.timers.now slots) (timer_at c.args.timers.now after) count place (timers-swapped c.args.timers.now slots after count (parent place) place few up i.within c.exchange.ensures.swapped) c.loop-place-test.true i.within i.above (sym c.is_before.ensures.before ∙ c.if-not-is_before.false);
      rises = omega (arith, c.is_before.ensures.counted, i.rises);
      levels = (levels.0, levels.2, omega (arith, levels.1, c.is_before.ensures.counted, c.is_before.ensures.once, i.levels.2));
    }

pub returns-then-not-is_before-clause-settled : goal.returns-then-not-is_before-clause-settled
returns-then-not-is_before-clause-settled g c =
    let i = c.loop-place.invariant in
    record {
      kept = i.slots;
      moved = i.moved;
      heap = up_done (timer_at c.args.timers.now c.loop-place.self.slots) c.args.self.now.count c.loop-place.place i.above (λ pos. sym c.is_before.ensures.before ∙ c.if-not-is_before.true);
    }

pub returns-then-not-is_before-clause-counted : goal.returns-then-not-is_before-clause-counted
returns-then-not-is_before-clause-counted g c =
    let i = c.loop-place.invariant in
    let levels = one_up i.levels.0 c.loop-place.place c.loop-place-test.true i.levels.1 in
    omega (arith, levels.1, c.is_before.ensures.counted, c.is_before.ensures.once, i.levels.2)

pub returns-clause-settled : goal.returns-clause-settled
returns-clause-settled g c =
    let i = c.loop-place.invariant in
    record {
      kept = i.slots;
      moved = i.moved;
      heap = up_done (timer_at c.args.timers.now c.loop-place.self.slots) c.args.self.now.count c.loop-place.place i.above (λ pos. absurd (omega (arith, pos, c.loop-place-test.false)));
    }
