use Rattle.std.proofs.Common.{◌≡◌, ◌++◌, take}
use Rattle.lg_follow.specs.Meaning.Lines.{changed_lines}
use Rattle.lg_follow.proofs.lines.put_changes.Given as goal

-- the lines so far
abbrev pub invariant-loop-change : goal.invariant-loop-change
invariant-loop-change l = l.text.items ≡ l.initial.text.items ++ changed_lines (take l.change-index l.changes)
