use Rattle.std.proofs.Common.{◌≡◌, map, take}
use Rattle.lg_c_values.specs.Meaning.Configs.{seed_or_default}
use Rattle.lg_c_values.proofs.config.told_seeds.Given as goal

abbrev pub invariant-loop-seed : goal.invariant-loop-seed
invariant-loop-seed l = l.told.items ≡ map seed_or_default (take l.seed-index l.seeds)
