use Rattle.std.proofs.Common.{◌≡◌, ℕ, ◌+◌, subst, arith}
use Rattle.lg_recorder.specs.Support.Pieces.{Appending}
use Rattle.lg_recorder.proofs.PieceLaws.{appending_more, appending_none, stopped_below}
use Rattle.lg_recorder.proofs.appending.append_each.Goals as goal

pub loop-index-init : goal.loop-index-init
loop-index-init g c =
    appending_none g.F.RecordFolder.tells (g.B.Batch.batch c.args.batch.now).chunks (g.F.RecordFolder.past c.args.folder.now) c.args.progress.now c.clear.new.self.items c.requires
    c.clear.ensures.items

pub returns-in_err-put_entry_of-clause-stopped : goal.returns-in_err-put_entry_of-clause-stopped
returns-in_err-put_entry_of-clause-stopped g c =
    stopped_below g.F.RecordFolder.tells (g.B.Batch.batch c.args.batch.now).chunks c.args.progress.now.left (g.F.RecordFolder.past c.args.folder.now) (g.F.RecordFolder.past c.loop-index.folder)
    c.loop-index.progress c.loop-index.index _ c.loop-index.invariant.stopped (omega arith)

pub returns-in_err-append_piece-clause-stopped : goal.returns-in_err-append_piece-clause-stopped
returns-in_err-append_piece-clause-stopped g c =
    stopped_below g.F.RecordFolder.tells (g.B.Batch.batch c.args.batch.now).chunks c.args.progress.now.left (g.F.RecordFolder.past c.args.folder.now)
    (g.F.RecordFolder.past c.append_piece.new.folder) c.append_piece.new.self (c.loop-index.index + 1) _
    (c.in_err-append_piece.ensures.stopped (g.B.Batch.batch c.args.batch.now).chunks c.args.progress.now.left (g.F.RecordFolder.past c.args.folder.now)
    (appending_more g.F.RecordFolder.tells (g.B.Batch.batch c.args.batch.now).chunks c.args.progress.now.left (g.F.RecordFolder.past c.args.folder.now)
    (g.F.RecordFolder.past c.loop-index.folder) c.loop-index.progress c.loop-index.index c.loop-index.text.items c.put_entry_of.new.text.items c.loop-index.invariant (omega arith)
    c.in_ok-put_entry_of.ensures))
    (omega arith)

pub loop-index-preserved : goal.loop-index-preserved
loop-index-preserved g c =
    c.in_ok-append_piece.ensures.appended (g.B.Batch.batch c.args.batch.now).chunks c.args.progress.now.left (g.F.RecordFolder.past c.args.folder.now)
    (appending_more g.F.RecordFolder.tells (g.B.Batch.batch c.args.batch.now).chunks c.args.progress.now.left (g.F.RecordFolder.past c.args.folder.now)
    (g.F.RecordFolder.past c.loop-index.folder) c.loop-index.progress c.loop-index.index c.loop-index.text.items c.put_entry_of.new.text.items c.loop-index.invariant (omega arith)
    c.in_ok-put_entry_of.ensures)

-- at the end of the loop the index is the number of the entries
pub returns-in_err-append-clause-stopped : goal.returns-in_err-append-clause-stopped
returns-in_err-append-clause-stopped g c =
    let at : c.loop-index.index ≡ c.len.result = omega arith in
    let so : Appending g.F.RecordFolder.tells (g.B.Batch.batch c.args.batch.now).chunks c.args.progress.now.left (g.F.RecordFolder.past c.args.folder.now) (g.F.RecordFolder.past c.loop-index.folder) c.loop-index.progress c.len.result c.loop-index.text.items =
    subst
    (λ (n : ℕ). Appending g.F.RecordFolder.tells (g.B.Batch.batch c.args.batch.now).chunks c.args.progress.now.left (g.F.RecordFolder.past c.args.folder.now) (g.F.RecordFolder.past c.loop-index.folder) c.loop-index.progress n c.loop-index.text.items)
    at c.loop-index.invariant in
    stopped_below g.F.RecordFolder.tells (g.B.Batch.batch c.args.batch.now).chunks c.args.progress.now.left (g.F.RecordFolder.past c.args.folder.now) (g.F.RecordFolder.past c.append.new.folder) c.append.new.self c.len.result _
    (c.in_err-append.ensures.stopped (g.B.Batch.batch c.args.batch.now).chunks c.args.progress.now.left (g.F.RecordFolder.past c.args.folder.now) so) (omega arith)

pub returns-clause-stopped : goal.returns-clause-stopped
returns-clause-stopped g c =
    let at : c.loop-index.index ≡ c.len.result = omega arith in
    let so : Appending g.F.RecordFolder.tells (g.B.Batch.batch c.args.batch.now).chunks c.args.progress.now.left (g.F.RecordFolder.past c.args.folder.now) (g.F.RecordFolder.past c.loop-index.folder) c.loop-index.progress c.len.result c.loop-index.text.items =
    subst
    (λ (n : ℕ). Appending g.F.RecordFolder.tells (g.B.Batch.batch c.args.batch.now).chunks c.args.progress.now.left (g.F.RecordFolder.past c.args.folder.now) (g.F.RecordFolder.past c.loop-index.folder) c.loop-index.progress n c.loop-index.text.items)
    at c.loop-index.invariant in
    let done = c.in_ok-append.ensures.appended (g.B.Batch.batch c.args.batch.now).chunks c.args.progress.now.left (g.F.RecordFolder.past c.args.folder.now) so in
    stopped_below g.F.RecordFolder.tells (g.B.Batch.batch c.args.batch.now).chunks c.args.progress.now.left (g.F.RecordFolder.past c.args.folder.now) (g.F.RecordFolder.past c.append.new.folder) c.append.new.self c.len.result _ done.stopped (omega arith)
