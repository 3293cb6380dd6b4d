use Rattle.std.proofs.Common.{◌≡◌, ◌++◌, string_bytes, take}
use Rattle.std.specs.List.{flat_map}
use Rattle.lg_answers.specs.Meaning.Metrics.{metric_lines}
use Rattle.lg_answers.proofs.metrics.put_metrics.Given as goal

-- the metrics so far
abbrev pub invariant-loop-metric : goal.invariant-loop-metric
invariant-loop-metric l =
    string_bytes l.text ≡ string_bytes l.initial.text ++ flat_map (metric_lines l.snapshot) (take l.metric-index l.metrics)
