-- The event Open: the detector is opened, and a claim is applied for each of its seeds.
use Rattle.std.specs.Prelude.{ℕ, List, ◌∷◌, map}
use Rattle.lg_rules.specs.declared.claim.Claim.{Claim}
use Rattle.lg_rules.specs.declared.claim.Status.TheVariants.{Alive}
use Rattle.lg_timing.specs.declared.config.Config.{Config}
use Rattle.lg_timing.specs.declared.config.Seed.{Seed}
use Rattle.lg_membership.specs.declared.origin.Origin.TheVariants.{Seed as OfSeed}
use Rattle.lg_membership.specs.Meaning.Log as group
use Rattle.lg_detector.specs.Meaning.Log.{Log, OfGroup}
use Rattle.lg_detector.specs.Meaning.Apply.{come, apply_all}

-- the claim that a seed is alive, at incarnation 0
abbrev pub alive_seed : Seed → Claim
alive_seed seed = record { name = seed.name; addr = seed.addr; status = Alive; incarnation = 0 }

abbrev pub seed_claims : Config → List Claim
seed_claims opening = map alive_seed opening.seeds.items

abbrev pub open_with : ℕ → Config → Log → Log
open_with now opening log = apply_all OfSeed (seed_claims opening) (OfGroup (group.Opened opening) ∷ come now log)
