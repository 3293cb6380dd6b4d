use Rattle.std.proofs.Common.{sym}
use Rattle.lg_gossip.proofs.Fewest.{sent-weaker}
use Rattle.lg_gossip.proofs.News.{none_below-sent}
use Rattle.lg_gossip.proofs.below.is_any_below.Goals as goal

pub returns-then-limit-fewest : goal.returns-then-limit-fewest
returns-then-limit-fewest c =
    sym (none_below-sent c.args.limit c.args.rows.now.items
    (sent-weaker c.args.limit c.args.fewest c.args.rows.now.items c.if-limit-fewest.true c.requires.least))
