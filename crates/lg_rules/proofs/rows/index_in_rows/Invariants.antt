use Rattle.std.proofs.Common.{◌≢◌, ◌-◌, ◌<◌, ◌≤◌, length, get_or}
use Rattle.lg_rules.proofs.Halving.{lessers}
use Rattle.lg_rules.proofs.KeyOrder.{names_order}
use Rattle.lg_rules.proofs.rows.index_in_rows.Given as goal

-- the rows with lesser names are those before some index of the part that is left
abbrev pub invariant-loop-low : goal.invariant-loop-low
invariant-loop-low g l =
    record {
      order : l.low ≤ l.high;
      within : l.high ≤ length l.rows.items;
      above : l.low ≤ lessers names_order g.T.Keyed.key_of l.name l.rows.items;
      below : lessers names_order g.T.Keyed.key_of l.name l.rows.items ≤ l.high;
      other : (d : g.row.T.Denot) → l.high < length l.rows.items → g.T.Keyed.key_of (get_or l.rows.items l.high d) ≢ l.name;
    }

abbrev pub decreases-loop-low : goal.decreases-loop-low
decreases-loop-low g l = l.high - l.low
