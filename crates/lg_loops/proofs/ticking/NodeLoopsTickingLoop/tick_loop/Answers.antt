use Rattle.std.proofs.Common.{arith}
use Rattle.lg_loops.proofs.StretchLaws.{ticks_none, ticks_on, ticks_over, ticks_stopped, ticks_bounded, ticks_anew}
use Rattle.lg_loops.proofs.ticking.NodeLoopsTickingLoop.tick_loop.Goals as goal

pub loop-init : goal.loop-init
loop-init g c =
    rw c.new-stretch.ensures record {
      turns = omega arith;
      dropped = omega arith;
      unsent = omega arith;
      ticks = ticks_none g.D.Dice.throws c.args.dice c.args.plan g.L.Link.tells c.args.shared.now.bound c.args.shared.now.endless _ c.args.side.pass c.begin-agenda.result c.now.result c.begin-agenda.ensures;
    }

pub returns-then-not-shared : goal.returns-then-not-shared
returns-then-not-shared g c =
    rw (c.end_loop.ensures.link, c.end_loop.ensures.spent, c.end_loop.ensures.end, c.end.ensures)
    (ticks_bounded g.D.Dice.throws c.args.dice c.loop.ticker.dice c.args.plan c.loop.plan g.L.Link.tells c.args.shared.now.bound c.args.shared.now.endless _ _ c.args.side.pass c.loop.ticker.side.pass c.loop.agenda c.loop.stretch c.if-stretch-shared.true
    c.if-not-shared.true c.loop.invariant.ticks)

pub loop-preserved-then-stretch-shared : goal.loop-preserved-then-stretch-shared
loop-preserved-then-stretch-shared g c =
    rw c.new-stretch-then-stretch-shared.ensures record {
      turns = omega arith;
      dropped = omega arith;
      unsent = omega arith;
      ticks = ticks_anew g.D.Dice.throws c.args.dice c.loop.ticker.dice c.args.plan c.loop.plan g.L.Link.tells c.args.shared.now.bound c.args.shared.now.endless _ _ c.args.side.pass c.loop.ticker.side.pass c.loop.agenda c.loop.stretch
          c.if-stretch-shared.true c.if-not-shared.false c.loop.invariant.ticks;
    }

pub add-requires-clause-turns : goal.add-requires-clause-turns
add-requires-clause-turns g c = omega (arith, c.if-stretch-shared.false, c.loop.invariant.turns, c.requires)

pub add-requires-clause-dropped : goal.add-requires-clause-dropped
add-requires-clause-dropped g c = (c.loop.invariant.dropped, c.in-Some-next_turn.ensures.0.took.few_dropped)

pub add-requires-clause-unsent : goal.add-requires-clause-unsent
add-requires-clause-unsent g c = (c.loop.invariant.unsent, c.in-Some-next_turn.ensures.0.took.few_unsent)

pub returns-in_default : goal.returns-in_default
returns-in_default g c =
    let none = c.in_default.ensures in
    rw (c.end_loop-in_default.ensures.link, c.end_loop-in_default.ensures.spent, c.end_loop-in_default.ensures.end, c.end-in_default.ensures, none.1)
    (ticks_stopped g.D.Dice.throws c.args.dice c.loop.ticker.dice c.args.plan c.loop.plan g.L.Link.tells c.args.shared.now.bound c.args.shared.now.endless _ _ c.args.side.pass c.loop.ticker.side.pass c.loop.agenda c.loop.stretch none.0 c.loop.invariant.ticks)

pub returns-in-Some-why : goal.returns-in-Some-why
returns-in-Some-why g c =
    let acted = c.in-Some-next_turn.ensures in
    rw (c.end_loop-in-Some-why.ensures.link, c.end_loop-in-Some-why.ensures.spent, c.end_loop-in-Some-why.ensures.end, c.end-in-Some-why.ensures, c.add.ensures)
    (ticks_over g.D.Dice.throws c.args.dice c.loop.ticker.dice c.next_turn.new.ticker.dice c.args.plan c.loop.plan c.next_turn.new.plan g.L.Link.tells c.args.shared.now.bound c.args.shared.now.endless _ _ _ c.args.side.pass c.loop.ticker.side.pass
    c.next_turn.new.ticker.side.pass c.loop.agenda c.next_turn.new.agenda c.loop.stretch c.in-Some-next_turn.turned c.in-Some-why.why c.loop.invariant.ticks acted.0 acted.1 c.in-Some-why.is)

pub loop-preserved : goal.loop-preserved
loop-preserved g c =
    let acted = c.in-Some-next_turn.ensures in
    rw c.add.ensures record {
      turns = omega (arith, c.if-stretch-shared.false, c.loop.invariant.turns);
      dropped = omega (arith, acted.0.took.few_dropped, c.loop.invariant.dropped);
      unsent = omega (arith, acted.0.took.few_unsent, c.loop.invariant.unsent);
      ticks = ticks_on g.D.Dice.throws c.args.dice c.loop.ticker.dice c.next_turn.new.ticker.dice c.args.plan c.loop.plan c.next_turn.new.plan g.L.Link.tells c.args.shared.now.bound c.args.shared.now.endless _ _ _ c.args.side.pass c.loop.ticker.side.pass
          c.next_turn.new.ticker.side.pass c.loop.agenda c.next_turn.new.agenda c.loop.stretch c.in-Some-next_turn.turned c.loop.invariant.ticks acted.0 acted.1 c.in_default-why.is;
    }
