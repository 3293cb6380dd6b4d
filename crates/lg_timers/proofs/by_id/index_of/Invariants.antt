use Rattle.std.proofs.Common.{◌≡◌, ℕ, ◌-◌, ◌<◌, ◌≤◌, length, get_or}
use Rattle.std.specs.declared.cmp.Ordering.TheVariants.{Less, Greater}
use Rattle.lg_rules.specs.Meaning.Rows.{name_cmp}
use Rattle.lg_timers.specs.Meaning.Timers.{id_key}
use Rattle.lg_timers.specs.Support.Slots.{slot_key}
use Rattle.lg_timers.proofs.by_id.index_of.Given as goal

-- the ids before the part that is left are lesser, and those behind it are greater
abbrev pub invariant-loop-low : goal.invariant-loop-low
invariant-loop-low l =
    record {
      order : l.low ≤ l.high;
      within : l.high ≤ length l.by_id;
      lesser : (k : ℕ) → k < l.low → name_cmp (slot_key l.timers (get_or l.by_id k 0)) (id_key l.id) ≡ Less;
      greater : (k : ℕ) → l.high ≤ k → k < length l.by_id → name_cmp (slot_key l.timers (get_or l.by_id k 0)) (id_key l.id) ≡ Greater;
    }

abbrev pub decreases-loop-low : goal.decreases-loop-low
decreases-loop-low l = l.high - l.low
