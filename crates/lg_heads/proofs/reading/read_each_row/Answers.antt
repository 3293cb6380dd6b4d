use Rattle.std.proofs.Common.{◌+◌, List, sym, subst}
use Rattle.lg_rules.specs.declared.claim.Claim.{Claim}
use Rattle.lg_recording.specs.Meaning.Scanning.{each_scan}
use Rattle.lg_recording.proofs.EachLoop.{ReadsEach, one_more, stops, all_read}
use Rattle.lg_heads.specs.Meaning.Scanning.{row_scan}
use Rattle.lg_heads.proofs.reading.read_each_row.Goals as goal

pub returns-in-Err : goal.returns-in-Err
returns-in-Err c =
    stops row_scan c.loop.rows.items c.loop.reader.rest.now c.in-Err.fault c.loop.counter c.args.count (each_scan row_scan c.args.count c.args.reader.now.rest.now) c.loop-test.true c.in-Err.ensures c.loop.invariant

pub loop-preserved : goal.loop-preserved
loop-preserved c =
    let total = each_scan row_scan c.args.count c.args.reader.now.rest.now in
    let more = one_more row_scan c.loop.rows.items c.loop.reader.rest.now c.read_row.new.reader.rest.now c.in-Ok.row c.loop.counter c.args.count total c.loop-test.true c.in-Ok.ensures c.loop.invariant in
    subst (λ (rows : List Claim). ReadsEach row_scan rows c.read_row.new.reader.rest.now (c.loop.counter + 1) c.args.count total) (sym c.in_ok-put_row-in-Ok.ensures) more

pub returns : goal.returns
returns c = all_read row_scan c.loop.rows.items c.loop.reader.rest.now c.loop.counter c.args.count (each_scan row_scan c.args.count c.args.reader.now.rest.now) c.loop-test.false c.loop.invariant
