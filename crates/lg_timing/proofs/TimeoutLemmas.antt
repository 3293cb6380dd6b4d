-- How large the times of a checked configuration are.
use Rattle.std.proofs.Common.{ℕ, ◌+◌, ◌*◌, ◌/◌, ◌≤◌, arith}
use Rattle.std.proofs.lemmas.Nat.{mul-le}
use Rattle.std.proofs.lemmas.Bool.Decides.{nat_tests}
use Rattle.lg_timing.proofs.ConfigLemmas.{ranges}
use Rattle.lg_timing.proofs.TableLemmas.{log10_most}
use Rattle.lg_timing.specs.declared.config.Config.{Config}
use Rattle.lg_timing.specs.Meaning.Config.{IsChecked}
use Rattle.lg_timing.specs.Meaning.Tables.{log10_of}
use Rattle.lg_timing.specs.Meaning.Timeouts.{confirmations_of, range_of}
use Rattle.lg_timing.specs.Support.Ranges.{HasRanges}
use Rattle.lg_timing.specs.Support.Timeouts.{HasTimeouts}

-- a time scaled by a health score
pub scaled_within : (time score : ℕ) → time ≤ 60000 → score ≤ 20 → time * (score + 1) ≤ 1260000
scaled_within time score short low = mul-le time (score + 1) 60000 21 short (omega arith)

-- the products that make a least and a greatest timeout
pub record AreLimited (alpha log interval beta : ℕ) : Type 0 where
  pub factor : alpha * log ≤ 48160
  pub product : alpha * log * interval ≤ 2889600000
  pub least : alpha * log * interval / 1000 ≤ 2889600
  pub ordered : alpha * log * interval / 1000 ≤ beta * (alpha * log * interval / 1000)
  pub greatest : beta * (alpha * log * interval / 1000) ≤ 57792000

pub limited : (n : ℕ) (c : Config) → IsChecked c → AreLimited c.alpha (log10_of n) c.interval_ms c.beta
limited n c checked =
    let r : HasRanges c = ranges c checked in
    let factor : c.alpha * log10_of n ≤ 48160 = mul-le c.alpha (log10_of n) 20 2408 r.alpha_most (log10_most n) in
    let product : c.alpha * log10_of n * c.interval_ms ≤ 2889600000 = mul-le (c.alpha * log10_of n) c.interval_ms 48160 60000 factor r.interval_most in
    let least : c.alpha * log10_of n * c.interval_ms / 1000 ≤ 2889600 = omega arith in
    record {
      factor = factor;
      product = product;
      least = least;
      ordered = omega (arith, mul-le 1 (c.alpha * log10_of n * c.interval_ms / 1000) c.beta (c.alpha * log10_of n * c.interval_ms / 1000) r.beta_least (omega arith));
      greatest = mul-le c.beta (c.alpha * log10_of n * c.interval_ms / 1000) 20 2889600 r.beta_most least;
    }

-- no more confirmations count than are configured
pub confirmations_most : (n : ℕ) (c : Config) → confirmations_of n c ≤ c.confirmations
confirmations_most n c = grind (arith, nat_tests)

-- the timeouts of a suspicion
pub has_timeouts : (n : ℕ) (c : Config) → IsChecked c → HasTimeouts (range_of n c).min (range_of n c).max (range_of n c).confirmations
unfolding range_of
has_timeouts n c checked =
    let l = limited n c checked in
    let r : HasRanges c = ranges c checked in
    record { ordered = l.ordered; most = l.greatest; few = omega (arith, confirmations_most n c, r.confirmations_most) }

-- what confirmations save is at most all that can be saved
pub saved_within : (span ratio : ℕ) → ratio ≤ 1000 → span * ratio / 1000 ≤ span
saved_within span ratio few = omega (arith, mul-le span ratio span 1000 (omega arith) few)
