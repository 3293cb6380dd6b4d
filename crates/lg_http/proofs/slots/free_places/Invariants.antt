use Rattle.std.proofs.Common.{◌≡◌, None, replicate}
use Rattle.lg_http.proofs.slots.free_places.Given as goal

abbrev pub invariant-loop-number : goal.invariant-loop-number
invariant-loop-number g l = l.places.items ≡ replicate l.number None
