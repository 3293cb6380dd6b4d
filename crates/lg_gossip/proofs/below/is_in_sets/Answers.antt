use Rattle.std.proofs.Common.{sym, arith}
use Rattle.lg_gossip.proofs.Fewest.{sent-weaker}
use Rattle.lg_gossip.proofs.InSets.{next-set, some-set}
use Rattle.lg_gossip.proofs.News.{none_below-sent}
use Rattle.lg_gossip.proofs.below.is_in_sets.Goals as goal

pub loop-sends-preserved : goal.loop-sends-preserved
loop-sends-preserved c rows sets least =
    next-set c.loop-sends.sends c.args.sent.now rows c.index-sent-sends.result c.is_empty.result sets
    (omega (arith, c.loop-sends-test.true, c.requires.few)) c.is_empty.ensures.empty
    c.if-not-is_empty.false
    (c.loop-sends.invariant rows sets least)

pub returns-then-not-is_empty : goal.returns-then-not-is_empty
returns-then-not-is_empty c rows sets least =
    sym (some-set c.loop-sends.sends c.args.sent.now rows c.index-sent-sends.result c.is_empty.result sets
    (omega (arith, c.loop-sends-test.true, c.requires.few)) c.is_empty.ensures.empty c.args.limit c.loop-sends-test.true
    c.if-not-is_empty.true)

pub returns : goal.returns
returns c rows sets least =
    sym (none_below-sent c.args.limit rows
    (sent-weaker c.args.limit c.loop-sends.sends rows c.loop-sends-test.false (c.loop-sends.invariant rows sets least)))
