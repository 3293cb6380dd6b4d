use Rattle.std.specs.Prelude.{option_copied}
use Rattle.lg_gossip.proofs.Choosing.{taken_none}
use Rattle.lg_gossip.proofs.Fewest.{sent-weaker}
use Rattle.lg_gossip.proofs.choice.rows_taken.Goals as goal

pub returns-then-limit-fewest-clause-taken : goal.returns-then-limit-fewest-clause-taken
returns-then-limit-fewest-clause-taken c =
    taken_none c.args.version (option_copied c.args.buddy) c.args.limit c.args.rows.now.items _ c.new.ensures
    (sent-weaker c.args.limit c.args.fewest c.args.rows.now.items c.if-limit-fewest.true c.requires.least)
