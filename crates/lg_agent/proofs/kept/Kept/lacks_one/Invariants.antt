use Rattle.std.proofs.Common.{◌≡◌, ◌+◌, ◌-◌}
use Rattle.std.specs.List.{list_any, range_with_len}
use Rattle.lg_agent.specs.Meaning.Closing.{is_missing}
use Rattle.lg_agent.proofs.kept.Kept.lacks_one.Given as goal

abbrev pub invariant-loop-place : goal.invariant-loop-place
invariant-loop-place g l = record {
  rest : list_any (is_missing l.spents) (range_with_len 1 l.self.places) ≡ list_any (is_missing l.spents) (range_with_len (l.place + 1) (l.self.places - l.place));
}
