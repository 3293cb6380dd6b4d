use Rattle.std.proofs.Common.{◌≡◌, [], length, refl, ap, arith}
use Rattle.std.proofs.lemmas.List.{nil_from_length}
use Rattle.lg_recorder.proofs.FolderLaws.{append_changed, grown_by, held_unappended}
use Rattle.lg_recorder.proofs.PieceLaws.{appending_nothing, appending_on, on_err, stopped_there}
use Rattle.lg_recorder.proofs.appending.Progress.append.Goals as goal

pub returns-then-size-eq0-clause-appended : goal.returns-then-size-eq0-clause-appended
returns-then-size-eq0-clause-appended g c = λ chunks left begin so.
    let empty : c.args.text.now.items ≡ [] = nil_from_length c.args.text.now.items (omega (arith, ap length c.as_slice-bytes.ensures.value)) in
    appending_nothing g.F.RecordFolder.tells chunks left begin (g.F.RecordFolder.past c.args.folder.now) c.args.self.now _ c.args.entries c.args.text.now.items so empty refl refl

pub returns-in_err-append-clause-stopped : goal.returns-in_err-append-clause-stopped
returns-in_err-append-clause-stopped g c = λ chunks left begin so.
    on_err c.from_residual.result
    (stopped_there g.F.RecordFolder.tells chunks left begin (g.F.RecordFolder.past c.args.folder.now) (g.F.RecordFolder.past c.append.new.self) c.args.self.now c.args.entries
    c.args.text.now.items so (λ told. held_unappended _ _ (c.in_err-append.ensures told)) (λ told. append_changed _ _ (c.in_err-append.ensures told)))

pub returns-clause-appended : goal.returns-clause-appended
returns-clause-appended g c = λ chunks left begin so.
    appending_on g.F.RecordFolder.tells chunks left begin (g.F.RecordFolder.past c.args.folder.now) (g.F.RecordFolder.past c.append.new.self) c.args.self.now _ c.args.entries
    c.args.text.now.items c.clear.new.self.items so refl (omega (arith, ap length c.as_slice-bytes.ensures.value)) c.clear.ensures.items
    (λ told. grown_by c.args.text.now.items _ _ c.as_slice-bytes.ensures.value (c.in_ok-append.ensures told)) (λ told. append_changed _ _ (c.in_ok-append.ensures told))
