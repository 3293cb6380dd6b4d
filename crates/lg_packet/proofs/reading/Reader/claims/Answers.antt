use Rattle.std.proofs.Common.{◌+◌, List, sym, ap, subst}
use Rattle.std.proofs.lemmas.Result.{err_from_is_err_and}
use Rattle.lg_rules.specs.declared.claim.Claim.{Claim}
use Rattle.lg_packet.specs.declared.packet.Packet.{Packet}
use Rattle.lg_packet.specs.Meaning.Reading.{claims_at}
use Rattle.lg_packet.proofs.ClaimLoop.{Reads, one_more, stops, all_read}
use Rattle.lg_packet.proofs.reading.Reader.claims.Goals as goal

pub returns-in_err-name-clause-read : goal.returns-in_err-name-clause-read
returns-in_err-name-clause-read c =
    let p = err_from_is_err_and c.from_residual.result c.from_residual.ensures.1 in
    rw (p.1, p.2) (stops c.args.version c.loop.packet.claims.items c.loop.self.rest.now c.in_err-name.field-0.0 c.loop.counter c.args.count (claims_at c.args.version c.args.count c.args.self.now.rest.now) c.loop-test.true c.in_err-name.ensures c.loop.invariant.reads)

pub loop-preserved : goal.loop-preserved
loop-preserved c =
    let total = claims_at c.args.version c.args.count c.args.self.now.rest.now in
    let more = one_more c.args.version c.loop.packet.claims.items c.loop.self.rest.now c.claim.new.self.rest.now c.in_ok-name.field-0 c.loop.counter c.args.count total c.loop-test.true c.in_ok-name.ensures c.loop.invariant.reads in
    record {
      reads = subst (λ (cs : List Claim). Reads c.args.version cs c.claim.new.self.rest.now (c.loop.counter + 1) c.args.count total) (sym c.push.ensures.items) more;
      front = ap (λ (p : Packet). record p { claims = c.push.new.self }) c.loop.invariant.front;
    }

pub returns-clause-read : goal.returns-clause-read
returns-clause-read c = all_read c.args.version c.loop.packet.claims.items c.loop.self.rest.now c.loop.counter c.args.count (claims_at c.args.version c.args.count c.args.self.now.rest.now) c.loop-test.false c.loop.invariant.reads
