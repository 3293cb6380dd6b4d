use Rattle.std.proofs.Common.{rules, ◌≡◌, [], ap, ◌∙◌, refl}
use Rattle.std.specs.Prelude.{Some}
use Rattle.lg_detector.specs.declared.event.Event.{Event}
use Rattle.lg_detector.specs.Meaning.Step.{reply_after}
use Rattle.lg_history.specs.Meaning.History.{HistoryValue, completed}
use Rattle.lg_agent.proofs.kept.opening.happen.Goals as goal

pub returns-clause-detector : goal.returns-clause-detector
returns-clause-detector g c = c.step.ensures.after [] c.in_ok-detector.ensures

pub returns-clause-history : goal.returns-clause-history
returns-clause-history g c =
    let e : Event = c.args.event.now in
    let ready : c.prepare.new.self ≡ record { entries = []; prepared = Some (record { seat = 0; event = e }) } = search rules in
    let replied : c.step.new.reply ≡ reply_after [] e = c.step.ensures.answer [] c.in_ok-detector.ensures in
    c.complete.ensures ∙ (ap (λ (v : HistoryValue). completed c.step.new.reply v) ready ∙ rw replied refl)
