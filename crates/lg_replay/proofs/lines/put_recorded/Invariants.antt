use Rattle.std.proofs.Common.{◌≡◌, ◌++◌, length}
use Rattle.lg_replay.specs.Meaning.Words.{recorded_text}
use Rattle.lg_replay.proofs.lines.put_recorded.Given as goal

-- the lines so far, with those of the rest
abbrev pub invariant-lines : goal.invariant-lines
invariant-lines l = l.text.items ++ recorded_text l.rest ≡ l.initial.text.items ++ recorded_text l.fn.lines

abbrev pub decreases-lines : goal.decreases-lines
decreases-lines l = length l.rest
