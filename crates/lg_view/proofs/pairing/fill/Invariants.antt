use Rattle.std.proofs.Common.{◌≡◌, ◌≤◌, [], All, vec_len}
use Rattle.std.specs.Vec.{vec_capacity}
use Rattle.lg_view.proofs.pairing.fill.Given as goal

abbrev pub invariant-loop : goal.invariant-loop
invariant-loop g l = record {
  count : vec_len l.looks ≡ l.counter;
  room : l.places ≤ vec_capacity l.looks;
  all_new : All (λ look. look ≡ []) l.looks.items;
}
