-- The times of a relay are within an interval.
use Rattle.std.proofs.Common.{ℕ, ◌*◌, ◌/◌, ◌≤◌, arith}
use Rattle.std.proofs.Math.Nat.{mul-div-le}
use Rattle.std.proofs.lemmas.Nat.{mul-le}
use Rattle.lg_timing.specs.declared.config.Config.{Config}
use Rattle.lg_timing.specs.declared.config.TheConstants.{MAX_INTERVAL_MS}
use Rattle.lg_timing.specs.Support.Ranges.{HasRanges}

pub product_most : (c : Config) → HasRanges c → c.timeout_ms * c.nack_thousandths ≤ 60000 * 1000
product_most c r =
    mul-le c.timeout_ms c.nack_thousandths 60000 1000 (omega (arith, r.timeout_below, r.interval_most)) (omega (arith, r.nack_most))

in_thousandths : (n m : ℕ) → n ≤ m * 1000 → n / 1000 ≤ m
in_thousandths n m le = omega (arith, le, mul-div-le n 1000)

pub nack_within : (c : Config) → HasRanges c → c.timeout_ms * c.nack_thousandths / 1000 ≤ MAX_INTERVAL_MS
nack_within c r = in_thousandths (c.timeout_ms * c.nack_thousandths) 60000 (product_most c r)
