use Rattle.std.proofs.Common.{◌≡◌, Some, take}
use Rattle.serde_json.specs.View.{items_view}
use Rattle.lg_client.specs.Meaning.Fields.{each_read}
use Rattle.lg_client.specs.Meaning.Members.{member_said}
use Rattle.lg_client.proofs.members.rows_in.Given as goal

-- the records of the elements so far
abbrev pub invariant-loop-value : goal.invariant-loop-value
invariant-loop-value l = each_read member_said (items_view (take l.value-index l.values)) ≡ Some l.rows.items
