use Rattle.std.proofs.Common.{◌≡◌, ◌∷◌, ◌++◌, [], Some, None, sym, ap, subst, ◌∙◌}
use Rattle.lg_timing.specs.declared.config.Config.{Config}
use Rattle.lg_detector.specs.declared.event.Event.TheVariants.{Open}
use Rattle.lg_sim.specs.Meaning.Outcome.{opening_fault}
use Rattle.lg_sim.specs.Meaning.Past.{opening_config}
use Rattle.lg_sim.specs.Support.After.{LedOn, fault_in}
use Rattle.lg_sim.proofs.OpenLaws.{fault_in-is, opens_new}
use Rattle.lg_sim.proofs.cluster.Cluster.open.Goals as goal

pub returns-in-Some-clause-stops : goal.returns-in-Some-clause-stops
returns-in-Some-clause-stops c = λ members past is.
    let hosts = c.args.self.now.hosts.items in
    let config : Config = opening_config c.args.opening.name c.args.opening.port c.args.opening.seeds c.args.self.now.settings in
    sym (fault_in-is hosts c.args.self.now.sent.items members past config is)
    ∙ ap (λ (k : Config). fault_in k hosts) (sym c.config_of-config.ensures)
    ∙ sym c.opening_fault.ensures ∙ c.in-Some.is

pub returns-clause-stops : goal.returns-clause-stops
returns-clause-stops c = λ members past is.
    let hosts = c.args.self.now.hosts.items in
    let config : Config = opening_config c.args.opening.name c.args.opening.port c.args.opening.seeds c.args.self.now.settings in
    sym (fault_in-is hosts c.args.self.now.sent.items members past config is)
    ∙ ap (λ (k : Config). fault_in k hosts) (sym c.config_of-config.ensures)
    ∙ sym c.opening_fault.ensures ∙ c.in_default.is

pub returns-clause-leads : goal.returns-clause-leads
returns-clause-leads c = λ members past is.
    let made = c.config_of-config.result in
    let good : opening_fault made members ≡ None =
    sym (fault_in-is c.args.self.now.hosts.items c.args.self.now.sent.items members past made is) ∙ sym c.opening_fault.ensures ∙ c.in_default.is in
    subst (λ (k : Config). LedOn c.args.self.now c.begin.new.self c.args.text.now.items c.begin.new.text.items (members ++ record { name = k.name; addr = k.addr } ∷ []) past
    (Some (record { member = record { name = k.name; addr = k.addr }; event = Open c.args.opening.now k })))
    c.config_of-config.ensures (c.in_ok-begin.ensures members past is (opens_new made members good))
