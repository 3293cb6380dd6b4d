use Rattle.std.proofs.Common.{◌≡◌, ◌≤◌, ◌+◌, ◌-◌, ◌++◌, length, map, take}
use Rattle.lg_rules.specs.declared.claim.TheConstants.{MAX_CLAIMS}
use Rattle.lg_gossip.specs.Meaning.Queue.{queued_claim}
use Rattle.lg_gossip.specs.Support.Places.{rows_at}
use Rattle.lg_gossip.proofs.choice.push_claims.Given as goal

abbrev pub invariant-loop-row : goal.invariant-loop-row
invariant-loop-row l = record {
  claims : l.claims.items ≡ l.initial.claims.items ++ map queued_claim (rows_at l.rows.items (take l.row-index l.taken));
  room : length l.claims.items + (length l.taken - l.row-index) ≤ MAX_CLAIMS;
}
