use Rattle.std.specs.Prelude.{filter}
use Rattle.lg_explain.proofs.StandstillLaws.{is_within, stays_filtered, stays_longer, stays_one_more}
use Rattle.lg_explain.proofs.standstills.add_stood.Goals as goal

pub returns : goal.returns
returns c = λ before every le keeps.
    rw (c.in_ok-push.ensures.items, c.drop_earlier.ensures)
    (stays_one_more (filter (is_within c.args.now) c.args.all.now.items) every c.args.now _
    (stays_filtered c.args.all.now.items every c.args.now (stays_longer c.args.all.now.items every before c.args.now le keeps)))
