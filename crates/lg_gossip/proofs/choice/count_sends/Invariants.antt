use Rattle.std.proofs.Common.{◌≡◌, map, take}
use Rattle.lg_gossip.specs.Meaning.Queue.{queued_claim, sent_once}
use Rattle.lg_gossip.specs.Support.Places.{rows_at}
use Rattle.lg_gossip.specs.Support.Sets.{AreSets}
use Rattle.lg_gossip.proofs.choice.count_sends.Given as goal

abbrev pub invariant-loop-row : goal.invariant-loop-row
invariant-loop-row l = record {
  rows : l.rows.items ≡ map (sent_once (map queued_claim (rows_at l.initial.rows.items (take l.row-index l.taken)))) l.initial.rows.items;
  sets : AreSets l.sent l.rows.items;
}
