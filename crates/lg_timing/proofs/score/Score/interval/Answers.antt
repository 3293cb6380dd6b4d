use Rattle.std.proofs.Common.{arith}
use Rattle.lg_timing.proofs.ConfigLemmas.{ranges}
use Rattle.lg_timing.proofs.TimeoutLemmas.{scaled_within}
use Rattle.lg_timing.specs.Support.Ranges.{HasRanges}
use Rattle.lg_timing.proofs.score.Score.interval.Goals as goal

pub overflow_mul-result : goal.overflow_mul-result
overflow_mul-result c =
    let r : HasRanges c.args.config.now = ranges c.args.config.now c.requires in
    omega (arith, scaled_within c.args.config.now.interval_ms c.self.inside.value (omega (arith, r.interval_most, r.timeout_below)) (omega arith))

pub returns-clause-within : goal.returns-clause-within
returns-clause-within c =
    let r : HasRanges c.args.config.now = ranges c.args.config.now c.requires in
    scaled_within c.args.config.now.interval_ms c.self.inside.value (omega (arith, r.interval_most, r.timeout_below)) (omega arith)
