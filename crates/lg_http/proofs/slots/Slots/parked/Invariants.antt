use Rattle.std.proofs.Common.{◌≡◌, ◌≤◌, take}
use Rattle.lg_http.specs.Meaning.Parked.{parked_count}
use Rattle.lg_http.proofs.slots.Slots.parked.Given as goal

abbrev pub invariant-loop-slot : goal.invariant-loop-slot
invariant-loop-slot l = (l.count ≡ parked_count (take l.slot-index l.slot-items)) × (l.count ≤ l.slot-index)
