use Rattle.std.proofs.Common.{◌≡◌, ◌++◌, take}
use Rattle.std.specs.List.{flat_map}
use Rattle.lg_lines.specs.Meaning.Replies.{forgot_line}
use Rattle.lg_lines.proofs.replies.put_forgotten.Given as goal

-- the lines so far
abbrev pub invariant-loop-name : goal.invariant-loop-name
invariant-loop-name l = l.text.items ≡ l.initial.text.items ++ flat_map forgot_line (take l.name-index l.names)
