use Rattle.std.proofs.Common.{◌≡◌, true, false, sym, ◌∙◌, arith}
use Rattle.lg_explain.proofs.InsightLaws.{no_insights, some_insights}
use Rattle.lg_explain.proofs.insights.insights_at.Goals as goal

pub returns-then-not-follow-clause-insights : goal.returns-then-not-follow-clause-insights
returns-then-not-follow-clause-insights c = λ past holds.
    let isnt : c.follow.result ≡ false = grind arith in
    no_insights c.follow.new.self c.args.name.now past c.args.event.now (sym c.follow.ensures.known ∙ isnt) (c.follow.ensures.past past holds)

pub returns-clause-insights : goal.returns-clause-insights
returns-clause-insights c = λ past holds.
    let does : c.follow.result ≡ true = grind arith in
    some_insights c.args.known.now c.follow.new.self c.args.name.now past c.args.event.now c.insight_of-before.result c.insight_of.result c.put_table.new.row.items
    (sym c.follow.ensures.known ∙ does) holds (c.follow.ensures.past past holds) c.insight_of-before.ensures c.insight_of.ensures c.put_table.ensures.list
