use Rattle.std.proofs.Common.{◌≡◌, ◌≤◌, take, length, vec_len}
use Rattle.std.specs.Vec.{vec_capacity}
use Rattle.lg_history.proofs.reply.store_sends.Given as goal

abbrev pub invariant-loop-outgoing : goal.invariant-loop-outgoing
invariant-loop-outgoing l = record {
  so_far : l.stored.items ≡ take l.outgoing-index l.sends;
  count : vec_len l.stored ≡ l.outgoing-index;
  room : length l.sends ≤ vec_capacity l.stored;
}
