use Rattle.std.proofs.Common.{◌<◌, ℕ, slice_index_or}
use mathlib.Core.List.{IsPrefix}
use Rattle.lg_agent.specs.Meaning.Values.{PassValue, all_events}
use Rattle.lg_agent.proofs.kept.Kept.compare_all.Given as goal

abbrev pub invariant-loop-spent : goal.invariant-loop-spent
invariant-loop-spent g l = record {
  so_far : (k : ℕ) (d : PassValue) → k < l.spent-index → IsPrefix (slice_index_or l.spents k d).seen (all_events l.self);
}
