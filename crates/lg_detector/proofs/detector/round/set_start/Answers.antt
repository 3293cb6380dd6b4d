use Rattle.std.proofs.Common.{arith, length, ap}
use Rattle.lg_timers.specs.declared.timer.TimerId.TheVariants.{RoundEnd, Direct}
use Rattle.lg_timers.proofs.Pending.{length_without-le}
use Rattle.lg_detector.proofs.detector.round.set_start.Goals as goal

pub reset-requires : goal.reset-requires
reset-requires c = λ unset.
    omega (arith, c.requires, ap length c.cancel-2.ensures.others, ap length c.cancel.ensures.others, length_without-le Direct c.cancel.new.self, length_without-le RoundEnd c.args.timers.now)
