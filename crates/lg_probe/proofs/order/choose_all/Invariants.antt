use Rattle.lg_probe.proofs.Joining.{HaveChosen}
use Rattle.lg_probe.proofs.order.choose_all.Given as goal

abbrev pub invariant-loop-word : goal.invariant-loop-word
invariant-loop-word l = HaveChosen l.fn.names l.words l.word-index l.order l.chosen.items
