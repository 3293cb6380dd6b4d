use Rattle.std.proofs.Common.{◌∙◌, arith}
use Rattle.lg_gossip.proofs.Moving.{sets-cleared}
use Rattle.lg_gossip.proofs.sets.clear_sets.Goals as goal

pub returns : goal.returns
returns c rows sets =
    sets-cleared c.loop-sends.sent (c.loop-sends.invariant.size ∙ sets.long)
    (λ sends d l. c.loop-sends.invariant.cleared sends d (omega (arith, l, c.loop-sends-test.false)))
