use Rattle.std.proofs.Common.{◌-◌, arith}
use Rattle.std.proofs.lemmas.Nat.{mul-le}
use Rattle.lg_timing.proofs.TimeoutLemmas.{saved_within}
use Rattle.lg_timing.specs.Meaning.Timeouts.{timeout_of}
use Rattle.lg_timing.proofs.timeout.SuspicionTimeout.after.Goals as goal

pub overflow_mul-saved : goal.overflow_mul-saved
overflow_mul-saved c =
    omega (arith, mul-le (c.self.inside.max_ms - c.self.inside.min_ms) c.ratio.result 57792000 1000 (omega (arith, c.self.invariant.most)) c.ratio.ensures.within_one)

pub overflow_sub-result : goal.overflow_sub-result
overflow_sub-result c =
    omega (arith, saved_within (c.self.inside.max_ms - c.self.inside.min_ms) c.ratio.result c.ratio.ensures.within_one)

pub returns-clause-timeout : goal.returns-clause-timeout
unfolding timeout_of
returns-clause-timeout c = rw (← c.self.view_is, c.ratio.ensures.quotient)
