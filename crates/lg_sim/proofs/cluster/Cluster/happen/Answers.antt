use Rattle.std.proofs.Common.{◌≡◌, ◌<◌, length, refl, ap, arith}
use Rattle.lg_detector.specs.Support.Step.{state_after}
use Rattle.lg_sim.specs.Meaning.Members.{events_of}
use Rattle.lg_sim.specs.declared.host.Host.{Host}
use Rattle.lg_sim.proofs.ClusterLaws.{accepts_next, led_on, read_host}
use Rattle.lg_sim.proofs.cluster.Cluster.happen.Goals as goal

pub lead-requires : goal.lead-requires
lead-requires c =
    let within : c.args.at < length c.args.self.now.hosts.items = omega (arith, c.requires.place, c.args.self.now.hosts.ok.0) in
    accepts_next c.args.self.now c.args.at c.index_mut.result.now c.args.event.now c.requires.reached within c.index_mut.ensures.value c.requires.later

pub returns : goal.returns
returns c = λ members past m is found.
    let same = read_host _ _ members past c.args.at m c.index_mut.result.now is found c.index_mut.ensures.value in
    let f = events_of m.name past in
    let at_f : c.index_mut.result.now.detector ≡ state_after f = ap (λ (x : Host). x.detector) same in
    led_on c.args.self.now _ _ _ members past c.args.at m c.args.event.now c.index_mut.result.now c.lead.new.host is found same refl refl
    (c.lead.ensures.host f at_f) (c.in_ok-lead.ensures.sent f at_f) (c.in_ok-lead.ensures.text f at_f)
