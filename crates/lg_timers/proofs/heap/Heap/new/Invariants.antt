use Rattle.std.proofs.Common.{◌≡◌, ℕ, ◌<◌, length, get_or}
use Rattle.lg_timers.proofs.heap.Heap.new.Given as goal

-- each slot so far stands at its own number
abbrev pub invariant-loop-slot : goal.invariant-loop-slot
invariant-loop-slot l = (length l.slots ≡ 400) × ((k : ℕ) → k < l.slot → get_or l.slots k 0 ≡ k)
