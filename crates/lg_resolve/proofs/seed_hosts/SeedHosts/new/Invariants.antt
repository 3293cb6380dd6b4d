use Rattle.std.proofs.Common.{◌≡◌, length, take}
use Rattle.lg_resolve.specs.Meaning.Rounds.{are_fresh, hosts_in, AreAfter}
use Rattle.lg_resolve.proofs.seed_hosts.SeedHosts.new.Given as goal

-- the hosts so far
abbrev pub invariant-loop-host : goal.invariant-loop-host
invariant-loop-host l = record {
  so_far : hosts_in l.rows.items ≡ take l.host-index l.hosts.items;
  fresh : AreAfter (are_fresh (take l.host-index l.hosts.items)) l.rows.items;
  few : length l.rows.items ≡ l.host-index;
}
