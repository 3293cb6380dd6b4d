use Rattle.std.proofs.Common.{◌≡◌, ◌++◌, take}
use Rattle.std.specs.List.{flat_map}
use Rattle.lg_lines.specs.Meaning.Records.{record_line}
use Rattle.lg_lines.proofs.records.put_records.Given as goal

-- the lines so far
abbrev pub invariant-loop-claim : goal.invariant-loop-claim
invariant-loop-claim l = l.text.items ≡ l.initial.text.items ++ flat_map record_line (take l.claim-index l.records)
