use Rattle.lg_probe.proofs.Joining.{HaveJoined}
use Rattle.lg_probe.proofs.order.order_of.Given as goal

abbrev pub invariant-loop-name : goal.invariant-loop-name
invariant-loop-name l = HaveJoined l.names l.name-index l.order
