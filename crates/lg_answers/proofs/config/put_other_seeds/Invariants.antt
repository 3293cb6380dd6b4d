use Rattle.std.proofs.Common.{◌≡◌, ◌++◌, string_bytes, take}
use Rattle.std.specs.List.{flat_map}
use Rattle.lg_answers.specs.Meaning.Bodies.{seed_json}
use Rattle.lg_answers.specs.Meaning.Members.{behind_comma}
use Rattle.lg_answers.proofs.config.put_other_seeds.Given as goal

-- the seeds so far
abbrev pub invariant-loop-seed : goal.invariant-loop-seed
invariant-loop-seed l =
    string_bytes l.text ≡ string_bytes l.initial.text ++ flat_map (behind_comma seed_json) (take l.seed-index l.seeds)
