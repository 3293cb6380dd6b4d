use Rattle.std.proofs.Common.{◌≡◌, map, take}
use Rattle.toml.specs.View.{view}
use Rattle.lg_config.specs.Meaning.Options.{options_of, seeds_given}
use Rattle.lg_config.proofs.given.seeds_given.Given as goal

-- the seeds so far
abbrev pub invariant-loop-option : goal.invariant-loop-option
invariant-loop-option l = map view l.seeds.items ≡ seeds_given (options_of (take l.option-index l.given))
