-- The bounds of the definitions are the constants of the code.
use Rattle.std.specs.Prelude.{◌≡◌, refl}
use Rattle.lg_timing.specs.declared.config.TheConstants.{
  MIN_INTERVAL_MS,
  MAX_INTERVAL_MS,
  MAX_FACTOR,
  MAX_CONFIRMATIONS,
  MAX_SEEDS,
}
use Rattle.lg_timing.specs.declared.tables.TheConstants.{MAX_LIVE}
use Rattle.lg_timing.specs.Meaning.Bounds.{
  least_interval_ms,
  most_interval_ms,
  most_factor,
  most_confirmations,
  most_seeds,
  most_live,
}

least_interval_ms-is : MIN_INTERVAL_MS ≡ least_interval_ms
least_interval_ms-is = refl

most_interval_ms-is : MAX_INTERVAL_MS ≡ most_interval_ms
most_interval_ms-is = refl

most_factor-is : MAX_FACTOR ≡ most_factor
most_factor-is = refl

most_confirmations-is : MAX_CONFIRMATIONS ≡ most_confirmations
most_confirmations-is = refl

most_seeds-is : MAX_SEEDS ≡ most_seeds
most_seeds-is = refl

most_live-is : MAX_LIVE ≡ most_live
most_live-is = refl
