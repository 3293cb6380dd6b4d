use Rattle.std.proofs.Common.{◌≡◌, ℕ, ◌<◌, length, get_or}
use Rattle.lg_rows.proofs.places.all_places.Given as goal

-- the places before this one are in order
abbrev pub invariant-loop-place : goal.invariant-loop-place
invariant-loop-place g l =
    record {
      long : length l.places ≡ g.row.N;
      told : (k : ℕ) → k < l.place → get_or l.places k 0 ≡ k;
    }
