use Rattle.std.proofs.Common.{◌≡◌, ◌≤◌, length, take}
use Rattle.lg_config.specs.Meaning.Seeds.{seed_hosts}
use Rattle.lg_config.proofs.seeds.hosts_among.Given as goal

-- those of the seeds so far
abbrev pub invariant-loop-seed : goal.invariant-loop-seed
invariant-loop-seed l =
    record {
      so_far : l.hosts.items ≡ seed_hosts (take l.seed-index l.seeds);
      few : length l.hosts.items ≤ l.seed-index;
    }
