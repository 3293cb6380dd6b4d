use Rattle.std.proofs.Common.{◌≡◌, ◌++◌, take}
use Rattle.std.specs.List.{flat_map}
use Rattle.lg_heads.specs.Meaning.Heads.{spelled_row}
use Rattle.lg_heads.proofs.writing.put_each_row.Given as goal

-- the records so far
abbrev pub invariant-loop-row : goal.invariant-loop-row
invariant-loop-row l = l.out.items ≡ l.initial.out.items ++ flat_map spelled_row (take l.row-index l.rows)
