use Rattle.std.proofs.Common.{arith}
use Rattle.lg_timing.proofs.ConfigLemmas.{ranges}
use Rattle.lg_timing.specs.Support.Ranges.{HasRanges}
use Rattle.lg_timing.proofs.timeout.confirmations_among.Goals as goal

pub overflow_add-config : goal.overflow_add-config
overflow_add-config c =
    let r : HasRanges c.args.config.now = ranges c.args.config.now c.requires in omega (arith, r.confirmations_most)
