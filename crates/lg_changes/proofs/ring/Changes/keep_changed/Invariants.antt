use Rattle.std.proofs.Common.{List, ◌++◌, map, take}
use Rattle.lg_changes.specs.declared.change.Change.{Change}
use Rattle.lg_changes.specs.Meaning.Changes.{recorded_at}
use Rattle.lg_changes.specs.Meaning.Kept.{KeepsNewest}
use Rattle.lg_changes.proofs.ring.Changes.keep_changed.Given as goal

-- the ring has the changes of the records so far
abbrev pub invariant-loop-member : goal.invariant-loop-member
invariant-loop-member l =
    (all : List Change) → KeepsNewest l.initial.self all
    → KeepsNewest l.self (all ++ map (recorded_at l.version l.moment) (take l.member-index l.members))
