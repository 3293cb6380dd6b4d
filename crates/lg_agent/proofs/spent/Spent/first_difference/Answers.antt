use Rattle.std.proofs.Common.{arith}
use Rattle.lg_agent.proofs.ClosingSteps.{ends_later}
use Rattle.lg_agent.proofs.spent.Spent.first_difference.Goals as goal

pub returns-then-found-len-2 : goal.returns-then-found-len-2
returns-then-found-len-2 g c =
    let s = c.self.inside in
    rw (← c.self.view_is) (ends_later s.mine.items c.args.history.now s.seat c.args.base s.gone c.loop-place.found c.loop-place.place _ c.loop-place.invariant.rest (omega (arith, c.loop-place-test.false)) (omega (arith, s.mine.ok, c.len-2.ensures, c.if-found-len-2.true)))
