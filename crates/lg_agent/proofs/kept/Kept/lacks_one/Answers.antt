use Rattle.std.proofs.Common.{sym, ◌∙◌, arith}
use Rattle.lg_agent.proofs.ClosingSteps.{missing_here, missing_more}
use Rattle.lg_agent.proofs.kept.Kept.lacks_one.Goals as goal

pub returns-then-times-eq0 : goal.returns-then-times-eq0
returns-then-times-eq0 g c = missing_here c.args.spents.now c.args.self.now.places c.loop-place.place _ (omega (arith, c.places-place-end.ensures.places)) c.loop-place.invariant.rest (sym c.times.ensures ∙ c.if-times-eq0.true)

pub loop-place-preserved : goal.loop-place-preserved
loop-place-preserved g c = record {
  rest = missing_more c.args.spents.now c.args.self.now.places c.loop-place.place _ (omega (arith, c.places-place-end.ensures.places)) c.loop-place.invariant.rest (λ none. c.if-times-eq0.false (c.times.ensures ∙ none));
}
