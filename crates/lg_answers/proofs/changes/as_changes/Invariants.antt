use Rattle.std.proofs.Common.{◌≡◌, map, take}
use Rattle.lg_changes.specs.Meaning.Changes.{recorded_at}
use Rattle.lg_answers.proofs.changes.as_changes.Given as goal

-- the changes so far
abbrev pub invariant-loop-member : goal.invariant-loop-member
invariant-loop-member l = l.rows.items ≡ map (recorded_at l.version l.moment) (take l.member-index l.members)
