use Rattle.std.proofs.Common.{List, ℕ, subst, sym}
use Rattle.lg_replay.specs.declared.fault.FolderFault.TheVariants.{Memory}
use Rattle.lg_replay.specs.Support.Folders.{IsReadWhole}
use Rattle.lg_replay.proofs.FolderLaws.{faulty}
use Rattle.lg_explain.proofs.FolderLaws.{took_on, unread, untaken}
use Rattle.lg_explain.proofs.folder.take_next.Goals as goal

pub returns-in_err-bytes-clause-fault : goal.returns-in_err-bytes-clause-fault
returns-in_err-bytes-clause-fault g c =
    faulty _ c.in_err-bytes.field-0.0 c.from_residual.result c.from_residual.ensures.1
    (λ before earlier numbers others so are.
    unread g.S.RecordingFiles.tells before (g.S.RecordingFiles.past c.args.files.now) (g.S.RecordingFiles.past c.read_bytes.new.files) numbers
    c.args.explainer.now c.args.question.now earlier c.args.number others c.in_err-bytes.field-0.0 c.in_err-bytes.ensures.fault so are)

pub returns-in_err-take_file-clause-fault : goal.returns-in_err-take_file-clause-fault
returns-in_err-take_file-clause-fault g c =
    faulty _ Memory _ c.from_residual-in_err-take_file.ensures.1
    (λ before earlier numbers others so are.
    untaken g.S.RecordingFiles.tells before (g.S.RecordingFiles.past c.args.files.now) (g.S.RecordingFiles.past c.read_bytes.new.files) numbers
    c.args.explainer.now c.args.question.now earlier c.args.number others c.in_ok-bytes.bytes.items c.in_ok-bytes.ensures.read so are)

pub returns-clause-done : goal.returns-clause-done
returns-clause-done g c = λ before earlier so.
    let tells = g.S.RecordingFiles.tells in
    let p0 = g.S.RecordingFiles.past c.args.files.now in
    let p1 = g.S.RecordingFiles.past c.read_bytes.new.files in
    let seen = c.deref.result.now in
    let read : IsReadWhole tells p0 p1 c.args.number seen = subst (λ (bytes : List ℕ). IsReadWhole tells p0 p1 c.args.number bytes) (sym c.deref.ensures.value) c.in_ok-bytes.ensures.read in
    took_on tells before p0 p1 c.args.explainer.now c.take_file.new.self c.args.question.now earlier c.args.number seen so read c.in_ok-take_file.ensures
