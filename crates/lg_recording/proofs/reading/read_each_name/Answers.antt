use Rattle.std.proofs.Common.{◌+◌, ℕ, List, sym, subst}
use Rattle.std.proofs.lemmas.Result.{err_from_is_err_and}
use Rattle.lg_fields.specs.Meaning.Scanned.{label_scan}
use Rattle.lg_recording.specs.Meaning.Scanning.{each_scan}
use Rattle.lg_recording.proofs.EachLoop.{ReadsEach, one_more, stops, all_read}
use Rattle.lg_recording.proofs.reading.read_each_name.Goals as goal

pub returns-in_err-name : goal.returns-in_err-name
returns-in_err-name c =
    let p = err_from_is_err_and c.from_residual.result c.from_residual.ensures.1 in
    rw (p.1, p.2) (stops label_scan c.loop.names.items c.loop.reader.rest.now c.in_err-name.field-0.0 c.loop.counter c.args.count (each_scan label_scan c.args.count c.args.reader.now.rest.now) c.loop-test.true c.in_err-name.ensures c.loop.invariant)

pub loop-preserved : goal.loop-preserved
loop-preserved c =
    let total = each_scan label_scan c.args.count c.args.reader.now.rest.now in
    let more = one_more label_scan c.loop.names.items c.loop.reader.rest.now c.label.new.self.rest.now c.in_ok-name.name c.loop.counter c.args.count total c.loop-test.true c.in_ok-name.ensures c.loop.invariant in
    subst (λ (names : List (List ℕ)). ReadsEach label_scan names c.label.new.self.rest.now (c.loop.counter + 1) c.args.count total) (sym c.push.ensures.items) more

pub returns : goal.returns
returns c = all_read label_scan c.loop.names.items c.loop.reader.rest.now c.loop.counter c.args.count (each_scan label_scan c.args.count c.args.reader.now.rest.now) c.loop-test.false c.loop.invariant
