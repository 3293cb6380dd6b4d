use Rattle.std.proofs.Common.{List}
use Rattle.lg_gossip.specs.declared.queued.Queued.{Queued}
use Rattle.lg_gossip.specs.Support.Sets.{AreSets}
use Rattle.lg_gossip.specs.Support.Sound.{AreSent}
use Rattle.lg_gossip.proofs.below.is_in_sets.Given as goal

abbrev pub invariant-loop-sends : goal.invariant-loop-sends
invariant-loop-sends l = (rows : List Queued) → AreSets l.sent rows → AreSent l.fewest rows → AreSent l.sends rows
