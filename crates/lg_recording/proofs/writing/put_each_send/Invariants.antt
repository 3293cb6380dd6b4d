use Rattle.std.proofs.Common.{◌≡◌, ◌++◌, take}
use Rattle.std.specs.List.{flat_map}
use Rattle.lg_recording.specs.Meaning.Spelling.{spelled_send}
use Rattle.lg_recording.proofs.writing.put_each_send.Given as goal

-- the packets so far
abbrev pub invariant-loop-outgoing : goal.invariant-loop-outgoing
invariant-loop-outgoing l = l.out.items ≡ l.initial.out.items ++ flat_map spelled_send (take l.outgoing-index l.sends)
