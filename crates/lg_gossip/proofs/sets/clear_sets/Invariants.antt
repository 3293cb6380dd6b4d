use Rattle.std.proofs.Common.{◌≡◌, ◌<◌, ℕ, List, Bool, length, get_or}
use Rattle.lg_bit_set.specs.Meaning.Flags.{no_flags}
use Rattle.lg_gossip.proofs.sets.clear_sets.Given as goal

abbrev pub invariant-loop-sends : goal.invariant-loop-sends
invariant-loop-sends l = record {
  size : length l.sent ≡ length l.initial.sent;
  cleared : (k : ℕ) (d : List Bool) → k < l.sends → get_or l.sent k d ≡ no_flags;
}
