use Rattle.std.proofs.Common.{◌≡◌, ℕ, ◌+◌, ◌<◌, ◌≤◌, take, IsPermutation}
use Rattle.lg_timers.specs.Support.Heap.{IsHeapAbove}
use Rattle.lg_timers.specs.Support.Slots.{timer_at, AreTimerSlots}
use Rattle.lg_timers.proofs.Levels.{IsWithin}
use Rattle.lg_timers.proofs.heap.Heap.sift_up.Given as goal

-- the slots in use are the same, and only the one at the place may stand too low
abbrev pub invariant-loop-place : goal.invariant-loop-place
invariant-loop-place g l =
    record {
      slots : AreTimerSlots l.timers l.self.slots l.self.places l.fn.self.count;
      count : l.self.count ≡ l.fn.self.count;
      moved : IsPermutation (take l.fn.self.count l.fn.self.slots) (take l.fn.self.count l.self.slots);
      within : l.place < l.fn.self.count;
      above : IsHeapAbove (timer_at l.timers l.self.slots) l.fn.self.count l.place;
      rises : g.C.Comparer.count l.fn.comparer ≤ g.C.Comparer.count l.comparer;
      levels : (levels : ℕ) × IsWithin levels l.place × (g.C.Comparer.count l.comparer + levels ≤ g.C.Comparer.count l.fn.comparer + 8);
    }

abbrev pub decreases-loop-place : goal.decreases-loop-place
decreases-loop-place g l = l.place
