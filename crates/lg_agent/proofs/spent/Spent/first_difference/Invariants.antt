use Rattle.std.proofs.Common.{◌≡◌, ◌≤◌, ◌+◌, length, drop}
use Rattle.lg_history.specs.Meaning.History.{positions}
use Rattle.lg_agent.specs.Meaning.Closing.{first_difference}
use Rattle.lg_agent.proofs.spent.Spent.first_difference.Given as goal

abbrev pub invariant-loop-place : goal.invariant-loop-place
invariant-loop-place g l = record {
  few : l.found ≤ length l.self-inside.mine.items;
  rest : first_difference (l.self-inside.gone + l.moved) (drop l.moved l.self-inside.mine.items) (positions l.self-inside.seat l.base l.history)
      ≡ first_difference (l.self-inside.gone + l.found) (drop l.found l.self-inside.mine.items) (positions l.self-inside.seat (l.base + l.place) (drop l.place l.history));
}
