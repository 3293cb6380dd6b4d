use Rattle.std.proofs.Common.{◌≡◌, ◌≤◌, length, take}
use Rattle.lg_config.specs.Meaning.Seeds.{asked_addrs}
use Rattle.lg_config.proofs.seeds.asked_among.Given as goal

-- those of the seeds so far
abbrev pub invariant-loop-seed : goal.invariant-loop-seed
invariant-loop-seed l =
    record {
      so_far : l.asked.items ≡ asked_addrs l.own (take l.seed-index l.seeds);
      few : length l.asked.items ≤ l.seed-index;
    }
