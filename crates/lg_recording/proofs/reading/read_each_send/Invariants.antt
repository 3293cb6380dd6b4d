use Rattle.lg_recording.specs.Meaning.Scanning.{each_scan, send_scan}
use Rattle.lg_recording.proofs.EachLoop.{ReadsEach}
use Rattle.lg_recording.proofs.reading.read_each_send.Given as goal

-- the packets so far, and what the bytes still come to
abbrev pub invariant-loop : goal.invariant-loop
invariant-loop l = ReadsEach send_scan l.sends.items l.reader.rest.now l.counter l.count (each_scan send_scan l.count l.fn.reader.rest.now)
