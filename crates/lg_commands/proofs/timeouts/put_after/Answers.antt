use Rattle.std.proofs.Common.{ap, decimal}
use Rattle.lg_commands.specs.Meaning.Timeouts.{after_line, ms_line}
use Rattle.lg_commands.proofs.TimeoutLaws.{with_line}
use Rattle.lg_commands.proofs.timeouts.put_after.Goals as goal

pub loop-confirmations-preserved : goal.loop-confirmations-preserved
loop-confirmations-preserved c =
    let n = c.loop-confirmations.confirmations-counter in
    with_line (after_line c.args.timeout.now) n _ _ _ _ c.loop-confirmations.invariant c.in_ok-writeln.ensures.bytes (ap (ms_line (decimal n)) c.after.ensures.timeout)
