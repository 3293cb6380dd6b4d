use Rattle.std.proofs.lemmas.Result.{IfOk-weaker}
use Rattle.lg_replay.specs.declared.fault.FolderFault.TheVariants.{Memory}
use Rattle.lg_replay.specs.Meaning.Folders.{FailsAtFile}
use Rattle.lg_replay.proofs.FolderLaws.{end_failed, ended, fault_weaker, faulty, unbegun}
use Rattle.lg_replay.proofs.folder.replay_listed.Goals as goal

pub returns-in_err-replayer-clause-fault : goal.returns-in_err-replayer-clause-fault
returns-in_err-replayer-clause-fault g c =
    faulty
    (FailsAtFile g.S.RecordingFiles.tells (g.S.RecordingFiles.past c.args.files.now) (g.S.RecordingFiles.past c.args.files.now) c.args.numbers.now c.args.window.now
    (g.W.Write.contents c.args.writer.now) (g.W.Write.contents c.args.writer.now))
    Memory c.from_residual.result c.from_residual.ensures.1
    (unbegun g.S.RecordingFiles.tells (g.S.RecordingFiles.past c.args.files.now) c.args.numbers.now c.args.window.now (g.W.Write.contents c.args.writer.now))

pub returns-clause-done : goal.returns-clause-done
returns-clause-done g c =
    IfOk-weaker c.write_end.result _ _
    (λ done ends.
    ended g.S.RecordingFiles.tells (g.S.RecordingFiles.past c.args.files.now) (g.S.RecordingFiles.past c.replay_each.new.files) c.args.numbers.now c.args.window.now
    (g.W.Write.contents c.args.writer.now) (g.W.Write.contents c.replay_each.new.writer) (g.W.Write.contents c.write_end.new.writer) c.replay_each.new.replayer done
    c.in_ok-replay_each.ensures.done ends)
    c.write_end.ensures.done

pub returns-clause-fault : goal.returns-clause-fault
returns-clause-fault g c =
    fault_weaker _ _ c.write_end.result
    (λ fault fails.
    end_failed g.S.RecordingFiles.tells (g.S.RecordingFiles.past c.args.files.now) (g.S.RecordingFiles.past c.replay_each.new.files) c.args.numbers.now c.args.window.now
    (g.W.Write.contents c.args.writer.now) (g.W.Write.contents c.replay_each.new.writer) (g.W.Write.contents c.write_end.new.writer) c.replay_each.new.replayer fault
    c.in_ok-replay_each.ensures.done fails)
    c.write_end.ensures.fault
