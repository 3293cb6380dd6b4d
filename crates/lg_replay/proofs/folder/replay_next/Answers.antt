use Rattle.std.proofs.Common.{List, ℕ, subst, sym}
use Rattle.std.specs.Io.KnownBytes.{Appends}
use Rattle.lg_text.specs.Meaning.Running.{AppendsFront}
use Rattle.lg_replay.specs.declared.fault.FolderFault.TheVariants.{Memory, Write}
use Rattle.lg_replay.specs.Support.Folders.{IsReadWhole}
use Rattle.lg_replay.proofs.FolderLaws.{faulty, read_failed, replay_refused, went_on, write_failed}
use Rattle.lg_replay.proofs.folder.replay_next.Goals as goal

pub returns-in_err-bytes-clause-fault : goal.returns-in_err-bytes-clause-fault
returns-in_err-bytes-clause-fault g c =
    faulty _ c.in_err-bytes.field-0.0 c.from_residual.result c.from_residual.ensures.1
    (λ before held earlier numbers others so are.
    read_failed g.S.RecordingFiles.tells before (g.S.RecordingFiles.past c.args.files.now) (g.S.RecordingFiles.past c.read_bytes.new.files) numbers c.args.window.now
    held (g.W.Write.contents c.args.writer.now) c.args.replayer.now earlier c.args.number others c.in_err-bytes.field-0.0 c.in_err-bytes.ensures.fault so are)

pub returns-in_err-replay_file-clause-fault : goal.returns-in_err-replay_file-clause-fault
returns-in_err-replay_file-clause-fault g c =
    faulty _ Memory _ c.from_residual-in_err-replay_file.ensures.1
    (λ before held earlier numbers others so are.
    replay_refused g.S.RecordingFiles.tells before (g.S.RecordingFiles.past c.args.files.now) (g.S.RecordingFiles.past c.read_bytes.new.files) numbers c.args.window.now
    held (g.W.Write.contents c.args.writer.now) c.args.replayer.now earlier c.args.number others c.in_ok-bytes.bytes.items c.in_ok-bytes.ensures.read so are)

pub returns-in_err-write_whole-clause-fault : goal.returns-in_err-write_whole-clause-fault
returns-in_err-write_whole-clause-fault g c =
    let tells = g.S.RecordingFiles.tells in
    let p0 = g.S.RecordingFiles.past c.args.files.now in
    let p1 = g.S.RecordingFiles.past c.read_bytes.new.files in
    let h0 = g.W.Write.contents c.args.writer.now in
    let h1 = g.W.Write.contents c.write_whole.new.writer in
    let seen = c.deref.result.now in
    let read : IsReadWhole tells p0 p1 c.args.number seen = subst (λ (bytes : List ℕ). IsReadWhole tells p0 p1 c.args.number bytes) (sym c.deref.ensures.value) c.in_ok-bytes.ensures.read in
    let front : AppendsFront h0 h1 c.replay_file.new.text.items = subst (λ (t : List ℕ). AppendsFront h0 h1 t) c.deref-2.ensures.value c.in_err-write_whole.ensures.partly in
    faulty _ (Write c.in_err-write_whole.field-0.0) _ c.from_residual-in_err-write_whole.ensures.1
    (λ before held earlier numbers others so are.
    write_failed tells before p0 p1 numbers c.args.window.now held h0 h1 c.args.replayer.now c.replay_file.new.self earlier c.args.number others seen
    c.new-text.result.items c.replay_file.new.text.items c.in_err-write_whole.field-0.0 c.new-text.ensures.items read so c.in_ok-replay_file.ensures front are)

pub returns-clause-done : goal.returns-clause-done
returns-clause-done g c = λ before held earlier so.
    let tells = g.S.RecordingFiles.tells in
    let p0 = g.S.RecordingFiles.past c.args.files.now in
    let p1 = g.S.RecordingFiles.past c.read_bytes.new.files in
    let h0 = g.W.Write.contents c.args.writer.now in
    let h1 = g.W.Write.contents c.write_whole.new.writer in
    let seen = c.deref.result.now in
    let read : IsReadWhole tells p0 p1 c.args.number seen = subst (λ (bytes : List ℕ). IsReadWhole tells p0 p1 c.args.number bytes) (sym c.deref.ensures.value) c.in_ok-bytes.ensures.read in
    let wrote : Appends h0 h1 c.replay_file.new.text.items = subst (λ (t : List ℕ). Appends h0 h1 t) c.deref-2.ensures.value c.in_ok-write_whole.ensures.written in
    went_on tells before p0 p1 c.args.window.now held h0 h1 c.args.replayer.now c.replay_file.new.self earlier c.args.number seen c.new-text.result.items
    c.replay_file.new.text.items c.new-text.ensures.items so read c.in_ok-replay_file.ensures wrote
