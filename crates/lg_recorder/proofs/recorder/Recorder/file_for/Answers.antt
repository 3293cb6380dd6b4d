use Rattle.std.proofs.Common.{ap, ◌∙◌}
use Rattle.lg_recorder.specs.Meaning.Folders.{HeldTexts}
use Rattle.lg_recorder.proofs.FolderLaws.{begins_closed, held_closed}
use Rattle.lg_recorder.proofs.PieceLaws.{on_err}
use Rattle.lg_recorder.proofs.recorder.Recorder.file_for.Goals as goal

pub returns-in_err-file-in-Some-2-clause-failed : goal.returns-in_err-file-in-Some-2-clause-failed
returns-in_err-file-in-Some-2-clause-failed g c = λ told.
    on_err c.from_residual.result
    (c.in_err-file-in-Some-2.ensures.failed told ∙ ap (λ (h : HeldTexts). h.texts) (held_closed _ _ (c.close.ensures told)))

pub returns-in_ok-file-in-Some-2-clause-begun : goal.returns-in_ok-file-in-Some-2-clause-begun
returns-in_ok-file-in-Some-2-clause-begun g c = λ told new.
    begins_closed c.args.self.now.size c.args.self.now.room c.args.self.now.next (g.B.Batch.batch c.args.batch.now) (g.F.RecordFolder.past c.args.folder.now)
    (g.F.RecordFolder.past c.close.new.self) (g.F.RecordFolder.past c.begin-in-Some-2.new.folder) _ (c.close.ensures told) (c.in_ok-file-in-Some-2.ensures.begun told)
