use Rattle.std.proofs.Common.{◌≡◌, ◌++◌, string_bytes, take}
use Rattle.std.specs.List.{flat_map}
use Rattle.lg_answers.specs.Meaning.Metrics.{drops_line}
use Rattle.lg_answers.proofs.metrics.put_drops.Given as goal

-- the lines so far
abbrev pub invariant-loop-drops : goal.invariant-loop-drops
invariant-loop-drops l =
    string_bytes l.text ≡ string_bytes l.initial.text ++ flat_map (drops_line) (take l.drops-index l.dropped)
