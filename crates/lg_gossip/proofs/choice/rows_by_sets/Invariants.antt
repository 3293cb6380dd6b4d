use Rattle.std.specs.Prelude.{option_copied}
use Rattle.std.proofs.Common.{◌≤◌, length}
use Rattle.lg_gossip.specs.Support.Places.{HasTaken}
use Rattle.lg_gossip.proofs.choice.rows_by_sets.Given as goal

abbrev pub invariant-loop-sends : goal.invariant-loop-sends
invariant-loop-sends l = record {
  taken : HasTaken l.fn.version (option_copied l.buddy) l.sends l.rows.items l.taken.items;
  few : length l.taken.items ≤ l.room;
}
