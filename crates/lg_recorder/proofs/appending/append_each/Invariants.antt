use Rattle.lg_recorder.specs.Support.Pieces.{Appending}
use Rattle.lg_recorder.proofs.appending.append_each.Given as goal

-- some of the entries so far are appended, and the text has the others
abbrev pub invariant-loop-index : goal.invariant-loop-index
invariant-loop-index g l =
    Appending g.F.RecordFolder.tells (g.B.Batch.batch l.fn.batch).chunks l.fn.progress.left
    (g.F.RecordFolder.past l.fn.folder) (g.F.RecordFolder.past l.folder) l.progress l.index l.text.items
