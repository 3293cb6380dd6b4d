use Rattle.std.proofs.Common.{◌≡◌, ◌++◌, true, List, length, take}
use Rattle.lg_resolve.specs.Meaning.Answers.{answers_by, Found}
use Rattle.lg_resolve.specs.Meaning.Rounds.{hosts_in, longer, AreAfter, TellsEach}
use Rattle.lg_resolve.proofs.seed_hosts.SeedHosts.resolve.Given as goal

-- the hosts so far, each with one answer more
abbrev pub invariant-loop-known : goal.invariant-loop-known
invariant-loop-known g l = record {
  few : length l.rows.items ≡ l.known-index;
  hosts : hosts_in l.rows.items ≡ hosts_in (take l.known-index l.fn.self.rows.items);
  found : (found : List Found) × (length found ≡ l.known-index)
      × ((histories : List (List Found)) → AreAfter histories l.fn.self.rows.items → AreAfter (longer (take l.known-index histories) found) l.rows.items)
      × ((histories : List (List Found)) → AreAfter histories l.fn.self.rows.items
      → TellsEach (g.F.FaultStream.reported l.fn.faults) (g.F.FaultStream.reported l.faults) (hosts_in (take l.known-index l.fn.self.rows.items)) (take l.known-index histories) found)
      × (g.S.Resolver.tells ≡ true → g.S.Resolver.log l.resolver ≡ g.S.Resolver.log l.fn.resolver ++ answers_by (hosts_in (take l.known-index l.fn.self.rows.items)) found);
}
