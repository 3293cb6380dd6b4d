use Rattle.std.proofs.Common.{◌≡◌, ◌++◌, string_bytes, take}
use Rattle.std.specs.List.{flat_map}
use Rattle.lg_answers.specs.Meaning.Metrics.{kind_line}
use Rattle.lg_answers.proofs.metrics.put_kinds.Given as goal

-- the lines so far
abbrev pub invariant-loop-kind : goal.invariant-loop-kind
invariant-loop-kind l =
    string_bytes l.text ≡ string_bytes l.initial.text ++ flat_map (kind_line l.members) (take l.kind-index l.kinds)
