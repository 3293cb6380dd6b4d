use Rattle.std.proofs.Common.{arith, length, ap}
use Rattle.lg_timers.specs.declared.timer.TimerId.TheVariants.{Direct, RoundStart}
use Rattle.lg_timers.proofs.Pending.{length_without-le, length_with-le}
use Rattle.lg_timers.specs.Meaning.Timers.{without_timer}
use Rattle.lg_detector.specs.Meaning.Timing.{direct_timer}
use Rattle.lg_detector.proofs.detector.round.set_probe.Goals as goal

pub reset-requires : goal.reset-requires
reset-requires c = λ unset. omega (arith, c.requires, ap length c.cancel.ensures.others, length_without-le RoundStart c.args.timers.now)

pub reset-requires-2 : goal.reset-requires-2
reset-requires-2 c = λ unset.
    omega (
      arith,
      c.requires,
      ap length c.reset.ensures,
      length_with-le (direct_timer c.args.direct) (without_timer Direct c.cancel.new.self),
      length_without-le Direct c.cancel.new.self,
      ap length c.cancel.ensures.others,
      length_without-le RoundStart c.args.timers.now,
    )
