use Rattle.std.proofs.Common.{◌≡◌, ◌+◌, ◌-◌}
use Rattle.std.specs.List.{range_with_len}
use Rattle.lg_agent.specs.Meaning.Closing.{least_difference}
use Rattle.lg_agent.proofs.kept.Kept.least_difference.Given as goal

abbrev pub invariant-loop-place : goal.invariant-loop-place
invariant-loop-place g l = record {
  rest : least_difference l.self l.spents (range_with_len 1 l.self.places) ≡ least_difference l.self l.spents (range_with_len (l.place + 1) (l.self.places - l.place));
}
