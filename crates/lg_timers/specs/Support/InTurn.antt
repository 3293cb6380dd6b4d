-- What holds of each set of timers, and the first of two timers.
use Rattle.std.specs.Prelude.{List, map, IsTrue, Option, Some, None, if◌then◌else◌}
use Rattle.std.specs.Ordering.{is_lt}
use Rattle.lg_rules.specs.Meaning.Rows.{name_cmp, Rises}
use Rattle.lg_timers.specs.declared.timer.Timer.{Timer}
use Rattle.lg_timers.specs.Meaning.Timers.{timer_key, timer_cmp, have_distinct_ids, is_forget}

-- timers in the order in which they fire, at most one with each id
pub record IsTimerSet (timers : List Timer) : Type 0 where
  pub rises : Rises name_cmp (map timer_key timers)
  pub distinct : IsTrue (have_distinct_ids timers)

-- timers in any order, at most one with each id
pub record AreTimersApart (timers : List Timer) : Type 0 where
  pub distinct : IsTrue (have_distinct_ids timers)

-- the one that fires first of two timers, of which the first may be missing
abbrev pub earlier : Option Timer → Timer → Timer
earlier None t = t
earlier (Some s) t = if is_lt (timer_cmp s t) then s else t

-- the first that forgets a member of some timers, by the first of those before one more, and that one
abbrev pub earlier_forget : Option Timer → Timer → Option Timer
earlier_forget first t = if is_forget t.id then Some (earlier first t) else first
