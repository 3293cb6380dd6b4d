use Rattle.std.proofs.Common.{arith, length, ap}
use Rattle.lg_timers.specs.declared.timer.TimerId.TheVariants.{RelayEnd}
use Rattle.lg_timers.specs.Meaning.Timers.{without_timer}
use Rattle.lg_timers.proofs.Pending.{length_without-le, length_with-le}
use Rattle.lg_detector.specs.Meaning.Timing.{relay_timer}
use Rattle.lg_detector.proofs.detector.relay.set_relay.Goals as goal

pub reset-requires-2 : goal.reset-requires-2
reset-requires-2 c = λ unset.
    omega (arith, c.requires, ap length c.reset.ensures, length_with-le (relay_timer c.args.end c.args.number) (without_timer (RelayEnd c.args.number) c.args.timers.now), length_without-le (RelayEnd c.args.number) c.args.timers.now)
