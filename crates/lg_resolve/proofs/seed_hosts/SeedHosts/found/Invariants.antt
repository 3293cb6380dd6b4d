use Rattle.std.proofs.Common.{◌≡◌, take}
use Rattle.lg_resolve.specs.Meaning.Rounds.{found_in}
use Rattle.lg_resolve.proofs.seed_hosts.SeedHosts.found.Given as goal

-- the first 64 of those of the hosts so far
abbrev pub invariant-loop-known : goal.invariant-loop-known
invariant-loop-known l = l.found.items ≡ take 64 (found_in (take l.known-index l.self.rows.items))
