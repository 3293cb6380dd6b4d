-- How long a suspicion lasts: the suspicion timeout (Lifeguard, local health aware suspicion).
use Rattle.std.specs.Prelude.{ℕ, ◌+◌, ◌-◌, ◌*◌, ◌/◌, nat_lt, if◌then◌else◌}
use Rattle.lg_timing.specs.declared.config.Config.{Config}
use Rattle.lg_timing.specs.Meaning.Tables.{log10_of, ratio_of}
use Rattle.lg_timing.specs.Meaning.TimeoutValue.{TimeoutValue}

-- how many confirmations count among n live members: those of the configuration, or none if n is less than that plus
-- 2 (this project's choice)
abbrev pub confirmations_of : ℕ → Config → ℕ
confirmations_of n c = if nat_lt n (c.confirmations + 2) then 0 else c.confirmations

-- the least timeout, in milliseconds: alpha times the logarithm times the interval
abbrev pub min_ms : ℕ → Config → ℕ
min_ms n c = c.alpha * log10_of n * c.interval_ms / 1000

-- The timeouts of a suspicion raised among n live members. The greatest is beta times the least.
unfoldable pub range_of : ℕ → Config → TimeoutValue
range_of n c =
    record { min = min_ms n c; max = c.beta * min_ms n c; confirmations = confirmations_of n c }

-- the timeout after c confirmations
unfoldable pub timeout_of : TimeoutValue → ℕ → ℕ
timeout_of r c = r.max - (r.max - r.min) * ratio_of r.confirmations c / 1000

-- the timeout of a suspicion raised among n live members, after c confirmations
abbrev pub suspicion_of : ℕ → ℕ → Config → ℕ
suspicion_of n c config = timeout_of (range_of n config) c
