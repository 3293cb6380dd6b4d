use Rattle.std.proofs.Common.{◌≡◌, ℕ, ◌∷◌, None, Option, refl, sym, ap, ◌∙◌, subst}
use Rattle.lg_recorder.specs.declared.recorder.OpenFile.{OpenFile}
use Rattle.lg_recorder.specs.declared.recorder.Recorder.{Recorder}
use Rattle.lg_recorder.specs.Meaning.Holding.{Holds, takes_batch}
use Rattle.lg_recorder.proofs.HoldingLaws.{holds_either, holds_empty, holds_lost}
use Rattle.lg_recorder.proofs.recorder.Recorder.record.Goals as goal

pub returns-then-len-eq0-clause-holds : goal.returns-then-len-eq0-clause-holds
returns-then-len-eq0-clause-holds g c = λ told batches holds.
    holds_empty c.args.self.now.size (g.B.Batch.batch c.args.batch.now) batches (g.F.RecordFolder.past c.args.folder.now) c.args.self.now.current holds

pub returns-in-Ok-clause-holds : goal.returns-in-Ok-clause-holds
returns-in-Ok-clause-holds g c = λ told batches holds.
    let batch = g.B.Batch.batch c.args.batch.now in
    let size_is : c.append_to.new.self.size ≡ c.args.self.now.size =
    ap (λ (r : Recorder). r.size) c.append_to.ensures.kept ∙ ap (λ (r : Recorder). r.size) c.in-Ok.ensures.kept in
    subst (λ (n : ℕ). Holds n (batch ∷ batches) (g.F.RecordFolder.past c.append_to.new.folder) c.append_to.new.self.current) (sym size_is)
    (holds_either c.args.self.now.size c.args.self.now.room c.args.self.now.next batch batches (g.F.RecordFolder.past c.args.folder.now) (g.F.RecordFolder.past c.file_for.new.folder)
    (g.F.RecordFolder.past c.append_to.new.folder) c.args.self.now.current c.in-Ok.file c.append_to.new.self.current (takes_batch c.args.self.now.current batch.first) refl
    (λ goes. let same = c.in-Ok.ensures.goes goes in (ap g.F.RecordFolder.past same.0, same.1)) (λ new. c.in-Ok.ensures.begun told new) (c.append_to.ensures.appended told) holds)

pub returns-in-Err-clause-holds : goal.returns-in-Err-clause-holds
returns-in-Err-clause-holds g c = λ told batches holds.
    let batch = g.B.Batch.batch c.args.batch.now in
    let size_is : c.lose.new.self.size ≡ c.args.self.now.size =
    ap (λ (r : Recorder). r.size) c.lose.ensures.kept ∙ ap (λ (r : Recorder). r.size) c.in-Err.ensures.kept in
    let none : c.lose.new.self.current ≡ None =
    ap (λ (r : Recorder). r.current) c.lose.ensures.kept ∙ ap (λ (r : Recorder). r.current) c.in-Err.ensures.kept in
    subst (λ (n : ℕ). Holds n (batch ∷ batches) (g.F.RecordFolder.past c.file_for.new.folder) c.lose.new.self.current) (sym size_is)
    (subst (λ (o : Option OpenFile). Holds c.args.self.now.size (batch ∷ batches) (g.F.RecordFolder.past c.file_for.new.folder) o) (sym none)
    (holds_lost c.args.self.now.size batch batches (g.F.RecordFolder.past c.args.folder.now) (g.F.RecordFolder.past c.file_for.new.folder) c.args.self.now.current holds
    (c.in-Err.ensures.failed told)))
