use Rattle.std.proofs.Common.{sym, ◌∙◌}
use Rattle.lg_sim.proofs.ClusterLaws.{named_at, named_nowhere, leads_named, not_named, named_open}
use Rattle.lg_sim.proofs.cluster.Cluster.happen_at.Goals as goal

pub returns-in_default-clause-stops : goal.returns-in_default-clause-stops
returns-in_default-clause-stops c = λ members past is.
    not_named c.args.name.now members (named_nowhere _ _ members past c.args.name.now is (sym c.in_default.is ∙ c.place_of.ensures))

pub returns-clause-stops : goal.returns-clause-stops
returns-clause-stops c = λ members past is.
    named_open c.args.name.now members _ (named_at _ _ members past c.args.name.now c.in-Some.at is (sym c.in-Some.is ∙ c.place_of.ensures)).1

pub returns-clause-leads : goal.returns-clause-leads
returns-clause-leads c = λ members past is.
    let place = named_at _ _ members past c.args.name.now c.in-Some.at is (sym c.in-Some.is ∙ c.place_of.ensures) in
    leads_named _ _ _ _ members past c.args.name.now c.args.event.now place.0 place.1 (c.in_ok-happen.ensures members past place.0 is place.2)
