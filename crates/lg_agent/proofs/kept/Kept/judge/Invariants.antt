use Rattle.std.proofs.Common.{◌≤◌, ◌<◌, ℕ, length, slice_index_or}
use Rattle.lg_agent.specs.Meaning.Values.{PassValue, count_of}
use Rattle.lg_agent.proofs.kept.Kept.judge.Given as goal

abbrev pub invariant-loop-spent : goal.invariant-loop-spent
invariant-loop-spent g l = record {
  so_far : (k : ℕ) (d : PassValue) → k < l.spent-index → length (slice_index_or l.spents k d).seen ≤ count_of l.self;
}
