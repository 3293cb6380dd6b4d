use Rattle.lg_client.specs.Support.Asking.{IsWatching}
use Rattle.lg_client.proofs.watching.watch.Given as goal

-- the answers so far were told
abbrev pub invariant-loop : goal.invariant-loop
invariant-loop g l =
    IsWatching l.json l.initial.writer l.writer (g.W.Write.contents l.initial.writer) (g.W.Write.contents l.writer)
    (g.F.FaultStream.reported l.initial.faults) (g.F.FaultStream.reported l.faults) l.place.version l.place.is_first
