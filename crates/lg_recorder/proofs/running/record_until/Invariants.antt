use Rattle.std.proofs.Common.{◌≡◌, true, List}
use Rattle.lg_recorder.specs.Meaning.Batches.{BatchValue}
use Rattle.lg_recorder.specs.Meaning.Holding.{Holds, HoldsMore}
use Rattle.lg_recorder.proofs.running.record_until.Given as goal

-- what was recorded so far, and what was done to the origin
abbrev pub invariant-loop : goal.invariant-loop
invariant-loop g l = record {
  holds : g.F.RecordFolder.tells ≡ true
      → (batches : List BatchValue)
      → Holds l.fn.recorder.size batches (g.F.RecordFolder.past l.fn.folder) l.fn.recorder.current
      → HoldsMore l.recorder.size batches (g.F.RecordFolder.past l.folder) l.recorder.current;
  took : g.S.BatchSource.took l.fn.origin l.origin;
}
