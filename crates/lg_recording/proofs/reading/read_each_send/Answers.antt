use Rattle.std.proofs.Common.{◌+◌, List, sym, subst}
use Rattle.std.proofs.lemmas.Result.{err_from_is_err_and}
use Rattle.lg_detector.specs.declared.reply.Outgoing.{Outgoing}
use Rattle.lg_recording.specs.Meaning.Scanning.{each_scan, send_scan}
use Rattle.lg_recording.proofs.EachLoop.{ReadsEach, one_more, stops, all_read}
use Rattle.lg_recording.proofs.reading.read_each_send.Goals as goal

pub returns-in_err-outgoing : goal.returns-in_err-outgoing
returns-in_err-outgoing c =
    let p = err_from_is_err_and c.from_residual.result c.from_residual.ensures.1 in
    rw (p.1, p.2) (stops send_scan c.loop.sends.items c.loop.reader.rest.now c.in_err-outgoing.field-0.0 c.loop.counter c.args.count (each_scan send_scan c.args.count c.args.reader.now.rest.now) c.loop-test.true c.in_err-outgoing.ensures c.loop.invariant)

pub loop-preserved : goal.loop-preserved
loop-preserved c =
    let total = each_scan send_scan c.args.count c.args.reader.now.rest.now in
    let more = one_more send_scan c.loop.sends.items c.loop.reader.rest.now c.read_send.new.reader.rest.now c.in_ok-outgoing.outgoing c.loop.counter c.args.count total c.loop-test.true c.in_ok-outgoing.ensures c.loop.invariant in
    subst (λ (sends : List Outgoing). ReadsEach send_scan sends c.read_send.new.reader.rest.now (c.loop.counter + 1) c.args.count total) (sym c.push.ensures) more

pub returns : goal.returns
returns c = all_read send_scan c.loop.sends.items c.loop.reader.rest.now c.loop.counter c.args.count (each_scan send_scan c.args.count c.args.reader.now.rest.now) c.loop-test.false c.loop.invariant
