use Rattle.std.proofs.Common.{◌≡◌, ◌+◌, ◌≤◌, length, drop}
use Rattle.lg_recorder.specs.Meaning.Folders.{size_of_all}
use Rattle.lg_recorder.proofs.room.excess.Given as goal

-- the files from `kept` on fit, and so many bytes are left
abbrev pub invariant-loop-kept : goal.invariant-loop-kept
invariant-loop-kept l = record {
  within : l.kept ≤ length l.fn.files;
  fit : l.left + size_of_all (drop l.kept l.fn.files) ≡ l.fn.room;
}

abbrev pub decreases-loop-kept : goal.decreases-loop-kept
decreases-loop-kept l = l.kept
