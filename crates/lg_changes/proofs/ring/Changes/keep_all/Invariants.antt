use Rattle.std.proofs.Common.{List, ◌++◌, take}
use Rattle.lg_changes.specs.declared.change.Change.{Change}
use Rattle.lg_changes.specs.Meaning.Kept.{KeepsNewest}
use Rattle.lg_changes.proofs.ring.Changes.keep_all.Given as goal

-- the ring has the changes so far
abbrev pub invariant-loop-change : goal.invariant-loop-change
invariant-loop-change l =
    (all : List Change) → KeepsNewest l.initial.self all → KeepsNewest l.self (all ++ take l.change-index l.changes)
