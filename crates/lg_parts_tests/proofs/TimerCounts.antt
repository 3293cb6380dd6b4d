use Rattle.std.proofs.Common.{suc, ◌≤◌, List, length, arith}
use Rattle.lg_timers.specs.declared.timer.Timer.{Timer}
use Rattle.lg_timers.specs.Meaning.Timers.{with_timer, without_timer}
use Rattle.lg_timers.proofs.Pending.{length_with-le, length_without-le}

-- one more timer is set at the most
pub one_more : (t : Timer) (timers : List Timer) → length (with_timer t (without_timer t.id timers)) ≤ suc (length timers)
one_more t timers = omega (arith, length_with-le t (without_timer t.id timers), length_without-le t.id timers)
