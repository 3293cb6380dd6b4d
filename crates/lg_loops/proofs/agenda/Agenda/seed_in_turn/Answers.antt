use Rattle.std.proofs.Common.{◌≡◌, ◌<◌, List, length, arith}
use Rattle.lg_rules.specs.declared.addr.Addr.{Addr}
use Rattle.lg_loops.proofs.PullingLaws.{next_seed_is}
use Rattle.lg_loops.proofs.agenda.Agenda.seed_in_turn.Goals as goal

pub returns : goal.returns
returns c =
    let seeds : List Addr = c.args.plan.now.seeds.items in
    let items : c.deref.result.now ≡ seeds = cc in
    let count : c.len-count.result ≡ length seeds = omega (arith, c.len-count.ensures.value) in
    let some : 0 < length seeds = omega (arith, c.if-count-eq0.false, c.len-count.ensures.value) in
    rw (items, count) (next_seed_is c.args.plan.now c.args.self.now _ c.if-not-self.false some)
