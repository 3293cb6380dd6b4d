use Rattle.std.proofs.Common.{◌≡◌, ◌++◌, take}
use Rattle.lg_follow.specs.Meaning.Lines.{told_lines}
use Rattle.lg_follow.proofs.lines.put_members.Given as goal

-- the lines so far
abbrev pub invariant-loop-claim : goal.invariant-loop-claim
invariant-loop-claim l = l.text.items ≡ l.initial.text.items ++ told_lines l.moment (take l.claim-index l.records)
