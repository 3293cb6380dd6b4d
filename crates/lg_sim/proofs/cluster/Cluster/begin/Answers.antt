use Rattle.std.proofs.Common.{[], refl}
use Rattle.lg_sim.proofs.OpenLaws.{began_on}
use Rattle.lg_sim.proofs.cluster.Cluster.begin.Goals as goal

pub returns : goal.returns
returns c = λ members past is none.
    began_on c.args.self.now _ _ _ members past _ _ c.lead.new.host is none c.in_ok-push.ensures.items refl
    (c.lead.ensures.host [] c.in_ok-detector.ensures) (c.in_ok-lead.ensures.sent [] c.in_ok-detector.ensures) (c.in_ok-lead.ensures.text [] c.in_ok-detector.ensures)
