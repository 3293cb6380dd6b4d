use Rattle.std.proofs.Common.{◌≡◌, ◌≤◌, length, take}
use Rattle.lg_config.specs.Meaning.Seeds.{known_seeds}
use Rattle.lg_config.proofs.seeds.known_seeds.Given as goal

-- those of the seeds so far
abbrev pub invariant-loop-seed : goal.invariant-loop-seed
invariant-loop-seed l =
    record {
      so_far : l.known.items ≡ known_seeds (take l.seed-index l.seeds);
      few : length l.known.items ≤ l.seed-index;
    }
