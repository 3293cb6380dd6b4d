use Rattle.std.proofs.Common.{arith}
use Rattle.lg_gossip.proofs.Moving.{sets-closed}
use Rattle.lg_gossip.proofs.sets.close_row.Goals as goal

pub returns : goal.returns
returns c rows sets below few within =
    sets-closed c.args.sent.now c.loop-sends.sent rows c.args.index c.args.used sets c.loop-sends.invariant.size
    (λ sends d l. c.loop-sends.invariant.closed sends d (omega (arith, l, c.loop-sends-test.false)))
    (λ sends d l. c.loop-sends.invariant.kept sends d (omega (arith, l, c.loop-sends.auto.sends-end))) below few within
