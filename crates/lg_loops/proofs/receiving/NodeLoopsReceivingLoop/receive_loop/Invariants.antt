use Rattle.std.proofs.Common.{◌≤◌, ◌*◌}
use Rattle.lg_turns.specs.Meaning.Turns.{line, receives}
use Rattle.lg_loops.proofs.UnderwayLaws.{Underway}
use Rattle.lg_loops.proofs.receiving.NodeLoopsReceivingLoop.receive_loop.Given as goal

abbrev pub invariant-loop : goal.invariant-loop
invariant-loop g l = record {
  turns : l.stretch.turns ≤ l.shared.bound;
  dropped : l.stretch.dropped ≤ l.stretch.turns;
  unsent : l.stretch.unsent ≤ 8 * l.stretch.turns;
  underway : Underway (receives l.shared.wait_ms) g.L.Link.tells l.shared.bound l.shared.endless (line (g.L.Link.log l.fn.side.link) (g.L.Link.failed l.fn.side.link)) (line (g.L.Link.log l.side.link) (g.L.Link.failed l.side.link)) l.fn.side.pass l.side.pass l.stretch;
}
