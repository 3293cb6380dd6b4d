use Rattle.std.proofs.Common.{◌+◌, List, sym, subst}
use Rattle.std.proofs.lemmas.Result.{err_from_is_err_and}
use Rattle.lg_timing.specs.declared.config.Seed.{Seed}
use Rattle.lg_fields.specs.Meaning.Scanned.{seeds_scan}
use Rattle.lg_fields.proofs.SeedLoop.{ReadsSome, one_more, stops, all_read}
use Rattle.lg_fields.proofs.reading.FieldReader.seeds.Goals as goal

pub returns-in_err-seed : goal.returns-in_err-seed
returns-in_err-seed c =
    let p = err_from_is_err_and c.from_residual.result c.from_residual.ensures.1 in
    rw (p.1, p.2) (stops c.loop.seeds.items c.loop.self.rest.now c.in_err-seed.field-0.0 c.loop.counter c.args.count (seeds_scan c.args.count c.args.self.now.rest.now) c.loop-test.true c.in_err-seed.ensures c.loop.invariant)

pub loop-preserved : goal.loop-preserved
loop-preserved c =
    let total = seeds_scan c.args.count c.args.self.now.rest.now in
    let more = one_more c.loop.seeds.items c.loop.self.rest.now c.seed.new.self.rest.now c.in_ok-seed.seed c.loop.counter c.args.count total c.loop-test.true c.in_ok-seed.ensures c.loop.invariant in
    subst (λ (seeds : List Seed). ReadsSome seeds c.seed.new.self.rest.now (c.loop.counter + 1) c.args.count total) (sym c.push.ensures.items) more

pub returns : goal.returns
returns c = all_read c.loop.seeds.items c.loop.self.rest.now c.loop.counter c.args.count (seeds_scan c.args.count c.args.self.now.rest.now) c.loop-test.false c.loop.invariant
