use Rattle.std.proofs.Common.{◌≡◌, ◌++◌, string_bytes, take}
use Rattle.std.specs.List.{flat_map}
use Rattle.lg_check.specs.Meaning.Spelling.{next_seed}
use Rattle.lg_check.proofs.spelling.put_seeds.Given as goal

-- the seeds so far
abbrev pub invariant-loop-seed : goal.invariant-loop-seed
invariant-loop-seed l =
    string_bytes l.text ≡ string_bytes l.initial.text ++ flat_map next_seed (take l.seed-index l.seeds)
