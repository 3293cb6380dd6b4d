use Rattle.std.proofs.Common.{List, ◌++◌, map, take}
use Rattle.lg_changes.specs.declared.change.Change.{Change}
use Rattle.lg_changes.specs.Meaning.Changes.{forgotten_at}
use Rattle.lg_changes.specs.Meaning.Kept.{KeepsNewest}
use Rattle.lg_changes.proofs.ring.Changes.keep_forgotten.Given as goal

-- the ring has the changes of the names so far
abbrev pub invariant-loop-name : goal.invariant-loop-name
invariant-loop-name l =
    (all : List Change) → KeepsNewest l.initial.self all
    → KeepsNewest l.self (all ++ map (forgotten_at l.version l.moment) (take l.name-index l.names))
