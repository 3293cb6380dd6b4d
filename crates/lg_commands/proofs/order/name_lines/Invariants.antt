use Rattle.std.proofs.Common.{◌≡◌, take}
use Rattle.lg_commands.specs.Meaning.Choosing.{name_lines}
use Rattle.lg_commands.proofs.order.name_lines.Given as goal

-- the lines so far
abbrev pub invariant-loop-name : goal.invariant-loop-name
invariant-loop-name l = l.text.items ≡ name_lines (take l.name-index l.names)
