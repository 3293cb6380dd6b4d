-- The event Open, as a function of the state.
use Rattle.std.specs.Prelude.{ℕ}
use Rattle.lg_timing.specs.declared.config.Config.{Config}
use Rattle.lg_membership.specs.declared.origin.Origin.TheVariants.{Seed}
use Rattle.lg_detector.specs.Meaning.Open.{seed_claims}
use Rattle.lg_detector.specs.Support.State.{State, come_state, begin, apply_all_state}

abbrev pub open_with_state : ℕ → Config → State → State
open_with_state now opening s = apply_all_state Seed (seed_claims opening) (begin opening (come_state now s))
