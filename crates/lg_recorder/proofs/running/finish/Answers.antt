use Rattle.std.proofs.Common.{◌∷◌, sym, subst}
use Rattle.lg_recorder.specs.declared.recorder.Recorder.{Recorder}
use Rattle.lg_recorder.specs.Meaning.Holding.{Holds, HoldsMore}
use Rattle.lg_recorder.proofs.HoldingLaws.{holds_closed, more_closed}
use Rattle.lg_recorder.proofs.running.finish.Goals as goal

pub returns-clause-holds : goal.returns-clause-holds
returns-clause-holds g c = λ told batches holds.
    subst (λ (r : Recorder). HoldsMore r.size batches (g.F.RecordFolder.past c.close.new.folder) r.current) (sym c.close.ensures.kept)
    (more_closed c.take_and_record-is_taken.new.recorder.size batches (g.F.RecordFolder.past c.take_and_record-is_taken.new.folder) (g.F.RecordFolder.past c.close.new.folder)
    c.take_and_record-is_taken.new.recorder.current (c.take_and_record-is_taken.ensures.holds told batches holds) (c.close.ensures.held told))

pub returns-clause-handed : goal.returns-clause-handed
returns-clause-handed g c = λ told taken batches holds.
    let batch = g.S.Batch.batch c.take_and_record-is_taken.new.source in
    subst (λ (r : Recorder). Holds r.size (batch ∷ batches) (g.F.RecordFolder.past c.close.new.folder) r.current) (sym c.close.ensures.kept)
    (holds_closed c.take_and_record-is_taken.new.recorder.size (batch ∷ batches) (g.F.RecordFolder.past c.take_and_record-is_taken.new.folder) (g.F.RecordFolder.past c.close.new.folder)
    c.take_and_record-is_taken.new.recorder.current (c.take_and_record-is_taken.ensures.handed told taken batches holds) (c.close.ensures.held told))
