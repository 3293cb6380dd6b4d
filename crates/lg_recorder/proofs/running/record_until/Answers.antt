use Rattle.std.proofs.Common.{◌++◌}
use Rattle.lg_recorder.proofs.HoldingLaws.{more_none, more_through}
use Rattle.lg_recorder.proofs.running.record_until.Goals as goal

pub loop-init : goal.loop-init
loop-init g c = record {
  holds = λ told batches holds.
      more_none c.args.recorder.now.size batches (g.F.RecordFolder.past c.args.folder.now) c.args.recorder.now.current holds;
  took = g.met.S.BatchSource.took_nothing c.args.origin.now;
}

pub loop-preserved : goal.loop-preserved
loop-preserved g c = record {
  holds = λ told batches holds.
      more_through c.loop.recorder.size c.take_and_record.new.recorder.size batches (g.F.RecordFolder.past c.loop.folder) (g.F.RecordFolder.past c.take_and_record.new.folder)
      c.loop.recorder.current c.take_and_record.new.recorder.current (c.loop.invariant.holds told batches holds)
      (λ earlier so. c.take_and_record.ensures.holds told earlier so);
  took = g.met.S.BatchSource.took_twice c.args.origin.now c.loop.origin c.take_and_record.new.origin c.loop.invariant.took c.take_and_record.ensures.took;
}

pub returns-clause-holds : goal.returns-clause-holds
returns-clause-holds g c = λ told batches holds.
    more_through c.loop.recorder.size c.finish.new.recorder.size batches (g.F.RecordFolder.past c.loop.folder) (g.F.RecordFolder.past c.finish.new.folder) c.loop.recorder.current
    c.finish.new.recorder.current (c.loop.invariant.holds told batches holds) (λ earlier so. c.finish.ensures.holds told earlier so)

pub returns-clause-took : goal.returns-clause-took
returns-clause-took g c = g.met.S.BatchSource.took_twice c.args.origin.now c.loop.origin c.finish.new.origin c.loop.invariant.took c.finish.ensures.took

pub returns-clause-last : goal.returns-clause-last
returns-clause-last g c = record { between = c.loop.origin; earlier = c.loop.invariant.took; last = c.finish.ensures.taking }

pub returns-clause-handed : goal.returns-clause-handed
returns-clause-handed g c = λ told taken batches holds.
    let before = c.loop.invariant.holds told batches holds in
    record { more = before.more; holds = c.finish.ensures.handed told taken (before.more ++ batches) before.holds }

pub returns-clause-told : goal.returns-clause-told
returns-clause-told g c = λ untaken. (g.T.FaultStream.reported c.loop.faults, c.finish.ensures.told untaken)
