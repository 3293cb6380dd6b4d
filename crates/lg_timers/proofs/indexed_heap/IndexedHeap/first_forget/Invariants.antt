use Rattle.std.proofs.Common.{◌≡◌, take}
use Rattle.lg_timers.specs.Meaning.Timers.{first_forget, in_turn}
use Rattle.lg_timers.specs.Support.Slots.{timers_in}
use Rattle.lg_timers.proofs.indexed_heap.IndexedHeap.first_forget.Given as goal

-- the first of those in the slots so far
abbrev pub invariant-loop-slot : goal.invariant-loop-slot
invariant-loop-slot l = l.first ≡ first_forget (in_turn (timers_in l.self-inside.timers (take l.slot-index l.self-inside.by_id.items)))
