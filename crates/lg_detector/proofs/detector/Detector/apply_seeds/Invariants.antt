use Rattle.std.proofs.Common.{◌≡◌, map, drop}
use Rattle.lg_membership.specs.declared.origin.Origin.TheVariants.{Seed as OfSeed}
use Rattle.lg_detector.specs.Meaning.Open.{alive_seed}
use Rattle.lg_detector.specs.Support.State.{apply_all_state}
use Rattle.lg_detector.proofs.detector.Detector.apply_seeds.Given as goal

-- what is left to say leads to where all leads from the start
abbrev pub invariant-loop-seed : goal.invariant-loop-seed
invariant-loop-seed l = apply_all_state OfSeed (map alive_seed (drop l.seed-index l.seeds)) l.self ≡ apply_all_state OfSeed (map alive_seed l.seeds) l.fn.self
