use Rattle.std.proofs.Common.{sym, ◌∙◌, ap, arith}
use Rattle.std.proofs.lemmas.List.Folds.{list_any_at}
use Rattle.lg_agent.specs.Meaning.Values.{own_name, all_events}
use Rattle.lg_agent.specs.Meaning.Closing.{is_foreign}
use Rattle.lg_agent.proofs.kept.Kept.has_foreign.Goals as goal

pub returns-then-is_foreign : goal.returns-then-is_foreign
returns-then-is_foreign g c =
    let P = is_foreign (own_name (all_events c.args.self.now)) c.args.self.now.places c.args.spents.now in
    sym (list_any_at P c.args.spents.now c.loop-spent.spent-index c.spent-item.result (omega (arith, c.loop-spent-test.true)) (ap P (sym c.spent-item.is) ∙ (sym c.is_foreign.ensures ∙ c.if-is_foreign.true)))
