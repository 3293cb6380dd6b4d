use Rattle.std.proofs.Common.{◌≤◌, ◌*◌}
use Rattle.lg_turns.specs.Meaning.Turns.{line}
use Rattle.lg_loops.proofs.StretchLaws.{TicksOn}
use Rattle.lg_loops.proofs.ticking.NodeLoopsTickingLoop.tick_loop.Given as goal

abbrev pub invariant-loop : goal.invariant-loop
invariant-loop g l = record {
  turns : l.stretch.turns ≤ l.shared.bound;
  dropped : l.stretch.dropped ≤ l.stretch.turns;
  unsent : l.stretch.unsent ≤ 8 * l.stretch.turns;
  ticks : TicksOn g.D.Dice.throws l.fn.dice l.ticker.dice l.fn.plan l.plan g.L.Link.tells l.shared.bound l.shared.endless (line (g.L.Link.log l.fn.side.link) (g.L.Link.failed l.fn.side.link)) (line (g.L.Link.log l.ticker.side.link) (g.L.Link.failed l.ticker.side.link))
      l.fn.side.pass l.ticker.side.pass l.agenda l.stretch;
}
