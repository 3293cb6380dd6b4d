use Rattle.std.proofs.Common.{◌≡◌, ◌==◌, drop}
use Rattle.std.specs.List.{find}
use Rattle.lg_agent.specs.Meaning.Values.{PassValue}
use Rattle.lg_agent.proofs.kept.Kept.difference_at.Given as goal

abbrev pub invariant-loop-spent : goal.invariant-loop-spent
invariant-loop-spent g l = record {
  rest : find (λ (s : PassValue). s.seat == l.seat) l.spents ≡ find (λ (s : PassValue). s.seat == l.seat) (drop l.spent-index l.spents);
}
