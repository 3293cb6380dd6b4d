use Rattle.std.proofs.Common.{arith}
use Rattle.lg_turns.specs.Meaning.Turns.{receives}
use Rattle.lg_loops.proofs.UnderwayLaws.{underway_none, underway_on, underway_over, underway_stopped, underway_bounded, underway_anew}
use Rattle.lg_loops.proofs.receiving.NodeLoopsReceivingLoop.receive_loop.Goals as goal

pub loop-init : goal.loop-init
loop-init g c =
    rw c.new-stretch.ensures record {
      turns = omega arith;
      dropped = omega arith;
      unsent = omega arith;
      underway = underway_none (receives c.args.shared.now.wait_ms) g.L.Link.tells c.args.shared.now.bound c.args.shared.now.endless _ c.args.side.pass;
    }

pub returns-then-not-shared : goal.returns-then-not-shared
returns-then-not-shared g c =
    rw (c.end_loop.ensures.link, c.end_loop.ensures.spent, c.end_loop.ensures.end, c.end.ensures)
    (underway_bounded (receives c.args.shared.now.wait_ms) g.L.Link.tells c.args.shared.now.bound c.args.shared.now.endless _ _ c.args.side.pass c.loop.side.pass c.loop.stretch c.if-stretch-shared.true c.if-not-shared.true c.loop.invariant.underway)

pub loop-preserved-then-stretch-shared : goal.loop-preserved-then-stretch-shared
loop-preserved-then-stretch-shared g c =
    rw c.new-stretch-then-stretch-shared.ensures record {
      turns = omega arith;
      dropped = omega arith;
      unsent = omega arith;
      underway = underway_anew (receives c.args.shared.now.wait_ms) g.L.Link.tells c.args.shared.now.bound c.args.shared.now.endless _ _ c.args.side.pass c.loop.side.pass c.loop.stretch c.if-stretch-shared.true c.if-not-shared.false c.loop.invariant.underway;
    }

pub returns-then-load : goal.returns-then-load
returns-then-load g c =
    rw (c.end_loop-then-load.ensures.link, c.end_loop-then-load.ensures.spent, c.end_loop-then-load.ensures.end, c.end-then-load.ensures)
    (underway_stopped (receives c.args.shared.now.wait_ms) g.L.Link.tells c.args.shared.now.bound c.args.shared.now.endless _ _ c.args.side.pass c.loop.side.pass c.loop.stretch c.loop.invariant.underway)

pub add-requires-clause-turns : goal.add-requires-clause-turns
add-requires-clause-turns g c = omega (arith, c.if-stretch-shared.false, c.loop.invariant.turns, c.requires)

pub add-requires-clause-dropped : goal.add-requires-clause-dropped
add-requires-clause-dropped g c = (c.loop.invariant.dropped, c.receive_turn-turned.ensures.few_dropped)

pub add-requires-clause-unsent : goal.add-requires-clause-unsent
add-requires-clause-unsent g c = (c.loop.invariant.unsent, c.receive_turn-turned.ensures.few_unsent)

pub returns-in-Some-why : goal.returns-in-Some-why
returns-in-Some-why g c =
    rw (c.end_loop-in-Some-why.ensures.link, c.end_loop-in-Some-why.ensures.spent, c.end_loop-in-Some-why.ensures.end, c.end-in-Some-why.ensures, c.add.ensures)
    (underway_over (receives c.args.shared.now.wait_ms) g.L.Link.tells c.args.shared.now.bound c.args.shared.now.endless _ _ _ c.args.side.pass c.loop.side.pass c.receive_turn-turned.new.side.pass c.loop.stretch c.receive_turn-turned.result c.in-Some-why.why
    c.loop.invariant.underway c.receive_turn-turned.ensures c.in-Some-why.is)

pub loop-preserved : goal.loop-preserved
loop-preserved g c =
    let took = c.receive_turn-turned.ensures in
    rw c.add.ensures record {
      turns = omega (arith, c.if-stretch-shared.false, c.loop.invariant.turns);
      dropped = omega (arith, took.few_dropped, c.loop.invariant.dropped);
      unsent = omega (arith, took.few_unsent, c.loop.invariant.unsent);
      underway = underway_on (receives c.args.shared.now.wait_ms) g.L.Link.tells c.args.shared.now.bound c.args.shared.now.endless _ _ _ c.args.side.pass c.loop.side.pass c.receive_turn-turned.new.side.pass c.loop.stretch c.receive_turn-turned.result
          c.loop.invariant.underway took c.in_default.is;
    }
