use Rattle.lg_probe.proofs.TakingOut.{IsOut}
use Rattle.lg_probe.proofs.names.take_out.Given as goal

abbrev pub invariant-loop-number : goal.invariant-loop-number
invariant-loop-number l = IsOut l.row l.name l.fn.numbers l.numbers l.found l.number
