use Rattle.std.proofs.Common.{◌≡◌, ◌++◌, take}
use Rattle.std.specs.List.{flat_map}
use Rattle.lg_fields.specs.Meaning.Spelled.{spelled_seed}
use Rattle.lg_fields.proofs.writing.put_seeds.Given as goal

-- the seeds so far
abbrev pub invariant-loop-seed : goal.invariant-loop-seed
invariant-loop-seed l = l.out.items ≡ l.initial.out.items ++ flat_map spelled_seed (take l.seed-index l.seeds)
