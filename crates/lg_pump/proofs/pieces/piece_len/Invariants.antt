use Rattle.std.proofs.Common.{ℕ, ◌≢◌, ◌<◌, ◌≤◌, slice_index}
use Rattle.lg_pump.proofs.pieces.piece_len.Given as goal

-- no byte from here on ends a line
abbrev pub invariant-from_behind : goal.invariant-from_behind
invariant-from_behind l = (k : ℕ) → l.at ≤ k → k < l.most → slice_index l.text k ≢ 10
