use Rattle.std.proofs.Common.{◌+◌, ◌∙◌, ap, arith}
use Rattle.lg_recorder.specs.declared.appending.Progress.{Progress}
use Rattle.lg_recorder.specs.declared.recorder.Recorder.{Recorder}
use Rattle.lg_recorder.proofs.HoldingLaws.{appends_none, appends_to}
use Rattle.lg_recorder.proofs.recorder.Recorder.append_to.Goals as goal

pub returns-in-Ok-clause-appended : goal.returns-in-Ok-clause-appended
returns-in-Ok-clause-appended g c = λ told.
    appends_to g.F.RecordFolder.tells (g.B.Batch.batch c.args.batch.now) (g.F.RecordFolder.past c.args.folder.now) (g.F.RecordFolder.past c.append_each.new.folder) c.args.file
    c.append_each.new.progress c.behind-self.result _ (c.first.result + c.len-len.result) told (ap (λ (p : Progress). p.left) c.new-progress.ensures)
    (omega (arith, c.first.ensures, c.len-len.ensures)) c.in-Ok.ensures.stopped c.in-Ok.ensures.whole c.behind-self.ensures.due c.behind-self.ensures.left

pub returns-in-Err-clause-appended : goal.returns-in-Err-clause-appended
returns-in-Err-clause-appended g c = λ told.
    appends_none g.F.RecordFolder.tells (g.B.Batch.batch c.args.batch.now) (g.F.RecordFolder.past c.args.folder.now) (g.F.RecordFolder.past c.append_each.new.folder)
    (g.F.RecordFolder.past c.abandon.new.folder) c.args.file c.append_each.new.progress c.lose.new.self.current _ told c.in-Err.ensures.stopped (c.abandon.ensures told)
    (ap (λ (r : Recorder). r.current) c.lose.ensures.kept ∙ c.requires)
