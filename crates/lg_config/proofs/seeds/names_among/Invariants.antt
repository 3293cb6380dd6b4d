use Rattle.std.proofs.Common.{◌≡◌, ◌≤◌, length, take}
use Rattle.lg_config.specs.Meaning.Seeds.{seed_names}
use Rattle.lg_config.proofs.seeds.names_among.Given as goal

-- those of the seeds so far
abbrev pub invariant-loop-seed : goal.invariant-loop-seed
invariant-loop-seed l =
    record {
      so_far : l.names.items ≡ seed_names (take l.seed-index l.seeds);
      few : length l.names.items ≤ l.seed-index;
    }
