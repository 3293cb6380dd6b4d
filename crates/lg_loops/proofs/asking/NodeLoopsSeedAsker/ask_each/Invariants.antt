use Rattle.std.proofs.Common.{◌≤◌, ◌*◌, take}
use mathlib.Core.List.{IsPrefix}
use Rattle.lg_turns.specs.Meaning.Asking.{Asked}
use Rattle.lg_turns.specs.Meaning.Turns.{line}
use Rattle.lg_loops.proofs.asking.NodeLoopsSeedAsker.ask_each.Given as goal

abbrev pub invariant-loop-seed : goal.invariant-loop-seed
invariant-loop-seed g l = record {
  begins : IsPrefix l.initial.pass.seen l.pass.seen;
  few : l.unsent ≤ 8 * l.seed-index;
  asked : Asked g.L.Link.tells (take l.seed-index l.seeds) (line (g.L.Link.log l.initial.link) (g.L.Link.failed l.initial.link)) (line (g.L.Link.log l.link) (g.L.Link.failed l.link)) l.initial.pass l.pass l.unsent;
}
