use Rattle.lg_replay.specs.declared.fault.FolderFault.TheVariants.{Memory}
use Rattle.lg_replay.proofs.FolderLaws.{faulty}
use Rattle.lg_explain.specs.Meaning.Folders.{FailsAtReading}
use Rattle.lg_explain.proofs.FolderLaws.{explained, unbegun_taking, unfinished}
use Rattle.lg_explain.proofs.folder.explain_listed.Goals as goal

pub returns-in_err-explainer-clause-fault : goal.returns-in_err-explainer-clause-fault
returns-in_err-explainer-clause-fault g c =
    faulty
    (FailsAtReading g.S.RecordingFiles.tells (g.S.RecordingFiles.past c.args.files.now) (g.S.RecordingFiles.past c.args.files.now) c.args.numbers.now)
    Memory c.from_residual.result c.from_residual.ensures.1
    (unbegun_taking g.S.RecordingFiles.tells (g.S.RecordingFiles.past c.args.files.now) c.args.numbers.now)

pub returns-in_err-accounts-clause-fault : goal.returns-in_err-accounts-clause-fault
returns-in_err-accounts-clause-fault g c =
    faulty
    (FailsAtReading g.S.RecordingFiles.tells (g.S.RecordingFiles.past c.args.files.now) (g.S.RecordingFiles.past c.take_each.new.files) c.args.numbers.now)
    Memory _ c.from_residual-in_err-accounts.ensures.1
    (unfinished g.S.RecordingFiles.tells (g.S.RecordingFiles.past c.args.files.now) (g.S.RecordingFiles.past c.take_each.new.files) c.args.numbers.now
    c.take_each.new.explainer c.args.question.now c.in_ok-take_each.ensures.done)

pub returns-clause-done : goal.returns-clause-done
returns-clause-done g c =
    explained g.S.RecordingFiles.tells (g.S.RecordingFiles.past c.args.files.now) (g.S.RecordingFiles.past c.take_each.new.files) c.args.numbers.now
    c.take_each.new.explainer c.args.question.now c.in_ok-accounts.accounts.items c.in_ok-take_each.ensures.done c.in_ok-accounts.ensures
