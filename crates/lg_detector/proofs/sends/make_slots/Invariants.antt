use Rattle.std.proofs.Common.{◌≡◌, ◌≤◌, ◌-◌, take}
use Rattle.arrayvec.specs.ArrayVec.{array_vec_len}
use Rattle.lg_detector.proofs.sends.make_slots.Given as goal

abbrev pub invariant-loop-slots : goal.invariant-loop-slots
invariant-loop-slots l = (array_vec_len l.fn.slots ≤ array_vec_len l.slots) × (take (array_vec_len l.fn.slots) l.slots.items ≡ l.fn.slots.items)

abbrev pub decreases-loop-slots : goal.decreases-loop-slots
decreases-loop-slots l = l.count - array_vec_len l.slots
