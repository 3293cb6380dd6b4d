use Rattle.std.proofs.Common.{◌≡◌, ◌≤◌, ◌<◌, ℕ, List, Bool, length, get_or}
use Rattle.lg_bit_set.specs.Meaning.Flags.{closed_flags}
use Rattle.lg_gossip.proofs.sets.close_row.Given as goal

abbrev pub invariant-loop-sends : goal.invariant-loop-sends
invariant-loop-sends l = record {
  size : length l.sent ≡ length l.initial.sent;
  closed : (k : ℕ) (d : List Bool) → k < l.sends → get_or l.sent k d ≡ closed_flags l.index (get_or l.initial.sent k d);
  kept : (k : ℕ) (d : List Bool) → l.sends ≤ k → get_or l.sent k d ≡ get_or l.initial.sent k d;
}
