use Rattle.std.proofs.Common.{◌≡◌, ◌++◌, take}
use Rattle.std.specs.List.{flat_map}
use Rattle.lg_packet.specs.Meaning.Spelling.{spelled_name}
use Rattle.lg_recording.proofs.writing.put_each_name.Given as goal

-- the names so far
abbrev pub invariant-loop-name : goal.invariant-loop-name
invariant-loop-name l = l.out.items ≡ l.initial.out.items ++ flat_map spelled_name (take l.name-index l.names)
