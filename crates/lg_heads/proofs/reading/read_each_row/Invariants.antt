use Rattle.lg_recording.specs.Meaning.Scanning.{each_scan}
use Rattle.lg_recording.proofs.EachLoop.{ReadsEach}
use Rattle.lg_heads.specs.Meaning.Scanning.{row_scan}
use Rattle.lg_heads.proofs.reading.read_each_row.Given as goal

-- the records so far, and what the bytes still come to
abbrev pub invariant-loop : goal.invariant-loop
invariant-loop l = ReadsEach row_scan l.rows.items l.reader.rest.now l.counter l.count (each_scan row_scan l.count l.fn.reader.rest.now)
