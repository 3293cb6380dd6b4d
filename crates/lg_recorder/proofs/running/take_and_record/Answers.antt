use Rattle.lg_recorder.proofs.HoldingLaws.{more_none, more_one}
use Rattle.lg_recorder.proofs.running.take_and_record.Goals as goal

pub returns-then-not-take-clause-holds : goal.returns-then-not-take-clause-holds
returns-then-not-take-clause-holds g c = λ told batches holds.
    more_none c.args.recorder.now.size batches (g.F.RecordFolder.past c.args.folder.now) c.args.recorder.now.current holds

pub returns-then-fault-clause-holds : goal.returns-then-fault-clause-holds
returns-then-fault-clause-holds g c = λ told batches holds.
    more_one c.record.new.self.size (g.S.Batch.batch c.take.new.self) batches (g.F.RecordFolder.past c.record.new.folder) c.record.new.self.current
    (c.record.ensures.holds told batches holds)

pub returns-else-fault-clause-holds : goal.returns-else-fault-clause-holds
returns-else-fault-clause-holds g c = λ told batches holds.
    more_one c.record.new.self.size (g.S.Batch.batch c.take.new.self) batches (g.F.RecordFolder.past c.record.new.folder) c.record.new.self.current
    (c.record.ensures.holds told batches holds)

pub returns-in_default-clause-holds : goal.returns-in_default-clause-holds
returns-in_default-clause-holds g c = λ told batches holds.
    more_one c.record.new.self.size (g.S.Batch.batch c.take.new.self) batches (g.F.RecordFolder.past c.record.new.folder) c.record.new.self.current
    (c.record.ensures.holds told batches holds)

pub returns-then-fault-clause-handed : goal.returns-then-fault-clause-handed
returns-then-fault-clause-handed g c = λ told taken batches holds. c.record.ensures.holds told batches holds

pub returns-else-fault-clause-handed : goal.returns-else-fault-clause-handed
returns-else-fault-clause-handed g c = λ told taken batches holds. c.record.ensures.holds told batches holds

pub returns-in_default-clause-handed : goal.returns-in_default-clause-handed
returns-in_default-clause-handed g c = λ told taken batches holds. c.record.ensures.holds told batches holds
