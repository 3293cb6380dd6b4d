use Rattle.std.proofs.Common.{◌≡◌, List, ◌++◌, map, take}
use Rattle.std.specs.Prelude.{filter}
use Rattle.lg_changes.specs.declared.change.Change.{Change}
use Rattle.lg_changes.specs.Meaning.Changes.{forgotten_at}
use Rattle.lg_changes.specs.Meaning.Kept.{KeepsNewest}
use Rattle.lg_detector.specs.declared.event.Event.{Event}
use Rattle.lg_detector.specs.Meaning.Step.{moment_after}
use Rattle.lg_detector.specs.Support.Step.{state_after}
use Rattle.lg_view.specs.Meaning.Changes.{is_unknown_after}
use Rattle.lg_view.proofs.published.keep_unknown.Given as goal

-- the changes have those of the names so far that are unknown
abbrev pub invariant-loop-name : goal.invariant-loop-name
invariant-loop-name l =
    (f : List Event) → (all : List Change) → l.detector ≡ state_after f → KeepsNewest l.initial.changes all
    → KeepsNewest l.changes
    (all ++ map (forgotten_at l.version (moment_after f)) (filter (is_unknown_after f) (take l.name-index l.names)))
