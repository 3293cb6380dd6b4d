-- What holds of the timeouts that a checked configuration gives.
use Rattle.std.specs.Prelude.{ℕ, ◌≤◌}
use Rattle.lg_timing.specs.declared.config.TheConstants.{MAX_CONFIRMATIONS}
use Rattle.lg_timing.specs.declared.timeout.TheConstants.{MAX_SUSPICION_MS}

pub record HasTimeouts (min max confirmations : ℕ) : Type 0 where
  pub ordered : min ≤ max
  pub most : max ≤ MAX_SUSPICION_MS
  pub few : confirmations ≤ MAX_CONFIRMATIONS
