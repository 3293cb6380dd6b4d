use Rattle.std.proofs.Common.{sym, ◌∙◌}
use Rattle.lg_sim.proofs.ClusterLaws.{leads_delivery, leads_nobody}
use Rattle.lg_sim.proofs.cluster.Cluster.deliver.Goals as goal

pub returns-in_default-place_at-clause-leads : goal.returns-in_default-place_at-clause-leads
returns-in_default-place_at-clause-leads c = λ members past is.
    leads_nobody c.args.self.now _ _ members past c.args.packet c.args.now c.in-Some.to c.in-Some.event is
    (sym c.delivery.ensures ∙ c.in-Some.is) (sym c.in_default-place_at.is ∙ c.place_at.ensures) c.in_ok-extend_from_slice.ensures.items

pub returns-clause-leads : goal.returns-clause-leads
returns-clause-leads c = λ members past is.
    leads_delivery c.args.self.now _ _ _ members past c.args.packet c.args.now c.in-Some.to c.in-Some.event c.in-Some-place_at.at is
    (sym c.delivery.ensures ∙ c.in-Some.is) (sym c.in-Some-place_at.is ∙ c.place_at.ensures)
    (λ m found. c.in_ok-happen.ensures members past m is found)
