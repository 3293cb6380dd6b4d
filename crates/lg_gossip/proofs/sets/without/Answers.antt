use Rattle.std.proofs.Common.{false, sym, arith}
use Rattle.lg_gossip.proofs.Moving.{set_past}
use Rattle.lg_gossip.proofs.sets.without.Goals as goal

pub returns-else-index-lt-NUMBERS : goal.returns-else-index-lt-NUMBERS
returns-else-index-lt-NUMBERS c =
    sym (set_past c.args.set.now c.args.index false (omega (arith, c.requires, c.if-index-lt-NUMBERS.false)))
