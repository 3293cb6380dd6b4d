use Rattle.std.proofs.Common.{◌≡◌, Some, sym, rules, arith}
use Rattle.lg_timers.specs.Meaning.Timers.{least_of}
use Rattle.lg_timers.proofs.CancelLaws.{due-none}
use Rattle.lg_timers.proofs.timers.Timers.due.Goals as goal

pub returns-then-timer-milliseconds : goal.returns-then-timer-milliseconds
returns-then-timer-milliseconds c =
    let first : least_of c.args.self.now ≡ Some c.in_ok-timer.timer = search rules in
    sym (due-none c.args.now c.in_ok-timer.timer c.args.self.now c.least.ensures.set.rises first (omega arith))
