use Rattle.std.proofs.Common.{List, refl, sym, subst}
use Rattle.std.proofs.lemmas.Result.{on_ok_weaker}
use Rattle.lg_script.specs.declared.command.Command.{Command}
use Rattle.lg_script.specs.declared.command.Command.TheVariants.{Deliver, Tick}
use Rattle.lg_sim.specs.Meaning.Past.{happening_of, happenings, opened}
use Rattle.lg_sim.specs.Support.After.{IsClusterAfter, RanCommand}
use Rattle.lg_sim.proofs.CommandLaws.{ran}
use Rattle.lg_sim.proofs.command.run_command.Goals as goal

pub returns-in-Tick-clause-runs : goal.returns-in-Tick-clause-runs
returns-in-Tick-clause-runs c =
    on_ok_weaker c.happen_at.result
    (λ leads. λ (before : List Command) (after : IsClusterAfter c.args.cluster.now before).
    let command : Command = Tick c.in-Tick.name c.in-Tick.now c.in-Tick.words in
    subst (λ (k : Command). RanCommand c.happen_at.new.self c.args.text.now.items c.happen_at.new.text.items before k) (sym c.in-Tick.is)
    (ran c.args.cluster.now c.happen_at.new.self _ _ before command (opened before) (happening_of command before) after refl refl refl refl
    (leads (opened before) (happenings before) after.is)))
    c.happen_at.ensures.leads

pub returns-in-Deliver-clause-runs : goal.returns-in-Deliver-clause-runs
returns-in-Deliver-clause-runs c =
    on_ok_weaker c.deliver.result
    (λ leads. λ (before : List Command) (after : IsClusterAfter c.args.cluster.now before).
    let command : Command = Deliver c.in-Deliver.packet c.in-Deliver.now in
    subst (λ (k : Command). RanCommand c.deliver.new.self c.args.text.now.items c.deliver.new.text.items before k) (sym c.in-Deliver.is)
    (ran c.args.cluster.now c.deliver.new.self _ _ before command (opened before) (happening_of command before) after refl refl refl refl
    (leads (opened before) (happenings before) after.is)))
    c.deliver.ensures.leads
