use Rattle.std.specs.Prelude.{option_copied}
use Rattle.lg_gossip.proofs.Choosing.{IsChosen}
use Rattle.lg_gossip.proofs.choice.rows_by_walk.Given as goal

abbrev pub invariant-loop-index : goal.invariant-loop-index
invariant-loop-index l = IsChosen (option_copied l.buddy) l.limit l.room l.rows.items l.index l.bound l.first.items
