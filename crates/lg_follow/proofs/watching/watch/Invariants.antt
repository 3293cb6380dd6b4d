use Rattle.lg_follow.specs.Support.Telling.{Telling}
use Rattle.lg_follow.proofs.watching.watch.Given as goal

-- what was told so far
abbrev pub invariant-loop : goal.invariant-loop
invariant-loop g l =
    Telling l.fn.pass l.pass (g.W.Write.contents l.fn.writer) (g.W.Write.contents l.writer) l.watcher.version
