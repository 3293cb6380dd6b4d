use Rattle.std.proofs.Common.{rules, ◌≡◌, List, All, subst, sym, ◌∙◌}
use Rattle.lg_detector.specs.declared.event.Event.{Event}
use Rattle.lg_agent.proofs.agent.Agent.passes.Goals as goal

pub returns-clause-seen : goal.returns-clause-seen
returns-clause-seen g c = λ f all.
    let told : c.args.self.now.told ≡ c.self.inside.waiting.items = search rules in
    let same : c.replace-looks.result.items ≡ c.self.inside.waiting.items = search rules in
    c.hand_out.ensures.seen f (subst (λ (ls : List (List Event)). All (λ k. k ≡ f) ls) (told ∙ sym same) all)
