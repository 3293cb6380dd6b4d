use Rattle.std.proofs.Common.{◌≡◌, ℕ, List, ◌++◌, true, false, length, ap, ◌∙◌, arith}
use Rattle.lg_recorder.specs.declared.recorder.Recorder.{Recorder}
use Rattle.lg_recorder.specs.Meaning.Folders.{HeldTexts}
use Rattle.lg_recorder.proofs.FolderLaws.{begins_file, held_closed, held_deleted, held_unappended, texts_begun}
use Rattle.lg_recorder.proofs.PieceLaws.{on_err}
use Rattle.lg_recorder.proofs.recorder.Recorder.begin.Goals as goal

pub returns-in_err-begin-clause-failed : goal.returns-in_err-begin-clause-failed
returns-in_err-begin-clause-failed g c = λ told.
    on_err c.from_residual-in_err-begin.result
    (texts_begun false _ _ (c.in_err-begin.ensures told) ∙ ap (λ (h : HeldTexts). h.texts) (c.in_ok-number.ensures.held told))

pub returns-in-Err-clause-failed : goal.returns-in-Err-clause-failed
returns-in-Err-clause-failed g c = λ told.
    ap (λ (h : HeldTexts). h.texts)
    (held_deleted _ _ (c.delete.ensures told) ∙ held_closed _ _ (c.close.ensures told) ∙ held_unappended _ _ (c.in-Err.ensures told))
    ∙ texts_begun true _ _ (c.in_ok-begin.ensures told)
    ∙ ap (λ (h : HeldTexts). h.texts) (c.in_ok-number.ensures.held told)

pub returns-clause-begun : goal.returns-clause-begun
returns-clause-begun g c = λ told.
    let head : List ℕ = (g.B.Batch.batch c.args.batch.now).head in
    let text_is : c.as_slice-text.result.now ≡ head =
    c.as_slice-text.ensures.value ∙ ap (λ (r : Recorder). r.text.items) c.in_ok-number.ensures.kept ∙ c.in_ok-put_head_of.ensures ∙ ap (λ (l : List ℕ). l ++ head) c.clear.ensures.items in
    begins_file c.args.self.now.size c.args.self.now.room c.args.self.now.next (g.B.Batch.batch c.args.batch.now) (g.F.RecordFolder.past c.args.folder.now)
    (g.F.RecordFolder.past c.make_room.new.folder) (g.F.RecordFolder.past c.begin.new.self) (g.F.RecordFolder.past c.append.new.self) _ (c.in_ok-number.ensures.made told)
    (c.in_ok-number.ensures.held told) (c.in_ok-number.ensures.begun told) (c.in_ok-begin.ensures told) (c.in_default.ensures told) text_is c.in_ok-number.ensures.number.0
    c.first.ensures (omega (arith, ap (λ (r : Recorder). r.size) c.in_ok-number.ensures.kept, ap length text_is))
