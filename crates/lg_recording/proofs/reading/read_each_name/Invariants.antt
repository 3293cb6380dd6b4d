use Rattle.lg_fields.specs.Meaning.Scanned.{label_scan}
use Rattle.lg_recording.specs.Meaning.Scanning.{each_scan}
use Rattle.lg_recording.proofs.EachLoop.{ReadsEach}
use Rattle.lg_recording.proofs.reading.read_each_name.Given as goal

-- the names so far, and what the bytes still come to
abbrev pub invariant-loop : goal.invariant-loop
invariant-loop l = ReadsEach label_scan l.names.items l.reader.rest.now l.counter l.count (each_scan label_scan l.count l.fn.reader.rest.now)
