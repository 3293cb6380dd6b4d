use Rattle.std.proofs.Common.{◌+◌, take, arith}
use Rattle.std.proofs.lemmas.List.{take_more}
use Rattle.lg_loops.proofs.SeenLaws.{call_begins, seen_itself}
use Rattle.lg_loops.proofs.AskingLaws.{asked_none, asked_more}
use Rattle.lg_loops.proofs.asking.NodeLoopsSeedAsker.ask_each.Goals as goal

pub loop-seed-init : goal.loop-seed-init
loop-seed-init g c = record { begins = seen_itself c.args.pass.now.seen; few = omega arith; asked = asked_none g.L.Link.tells _ c.args.pass.now }

pub loop-seed-preserved : goal.loop-seed-preserved
loop-seed-preserved g c =
    let i = c.loop-seed.seed-index in
    let taken = take_more c.args.seeds.now i _ (omega arith) in
    record {
      begins = call_begins c.args.pass.now.seen _ _ _ _ c.loop-seed.invariant.begins c.in_ok-pull.ensures.answered;
      few = omega (arith, c.loop-seed.invariant.few, c.of-unsent.ensures.few);
      asked = rw taken (asked_more g.L.Link.tells (take i c.args.seeds.now) _ _ _ _ _ _ _ _ _ c.loop-seed.unsent c.of-unsent.result.unsent c.loop-seed.invariant.asked c.in_ok-pull.ensures.answered c.of-unsent.ensures.handed);
    }
