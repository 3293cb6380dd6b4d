use Rattle.std.proofs.Common.{◌≡◌, ◌++◌, take}
use Rattle.std.specs.List.{flat_map}
use Rattle.lg_commands.specs.Meaning.Answering.{sent_line}
use Rattle.lg_commands.proofs.answer.put_sends.Given as goal

abbrev pub invariant-loop-outgoing : goal.invariant-loop-outgoing
invariant-loop-outgoing l = l.text.items ≡ l.initial.text.items ++ flat_map sent_line (take l.outgoing-index l.sends)
