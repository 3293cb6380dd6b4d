use Rattle.std.proofs.Common.{◌≡◌, ◌+◌, ◌++◌, take}
use Rattle.lg_lines.specs.Meaning.Replies.{sends_text}
use Rattle.lg_lines.proofs.replies.put_sends.Given as goal

-- the lines so far, and the number of the next packet
abbrev pub invariant-loop-outgoing : goal.invariant-loop-outgoing
invariant-loop-outgoing l =
    (l.number ≡ l.first + l.outgoing-index)
    × (l.text.items ≡ l.initial.text.items ++ sends_text l.first (take l.outgoing-index l.sends))
