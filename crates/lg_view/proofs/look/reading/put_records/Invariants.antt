use Rattle.std.proofs.Common.{◌≡◌, ◌≤◌, take}
use Rattle.std.specs.Vec.{vec_capacity}
use Rattle.lg_rules.specs.declared.members.TheConstants.{MAX_MEMBERS}
use Rattle.lg_view.proofs.look.reading.put_records.Given as goal

abbrev pub invariant-loop-index : goal.invariant-loop-index
invariant-loop-index g l = record { so_far : l.records.items ≡ take l.index l.row.items; room : MAX_MEMBERS ≤ vec_capacity l.records }
