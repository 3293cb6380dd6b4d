use Rattle.std.proofs.Common.{sym, ◌∙◌, arith}
use Rattle.lg_agent.proofs.ClosingSteps.{least_here, least_more}
use Rattle.lg_agent.proofs.kept.Kept.least_difference.Goals as goal

pub returns-then-is_some : goal.returns-then-is_some
returns-then-is_some g c = least_here c.args.self.now c.args.spents.now c.args.self.now.places c.loop-place.place _ c.difference_at-fault.result (omega (arith, c.places-place-end.ensures.places)) c.loop-place.invariant.rest c.difference_at-fault.ensures (sym c.is_some.ensures ∙ c.if-is_some.true)

pub loop-place-preserved : goal.loop-place-preserved
loop-place-preserved g c = record {
  rest = least_more c.args.self.now c.args.spents.now c.args.self.now.places c.loop-place.place _ c.difference_at-fault.result (omega (arith, c.places-place-end.ensures.places)) c.loop-place.invariant.rest c.difference_at-fault.ensures (sym c.is_some.ensures ∙ c.if-is_some.false);
}
