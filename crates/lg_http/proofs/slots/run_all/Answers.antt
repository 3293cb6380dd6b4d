use Rattle.std.proofs.Common.{rules, ◌<◌, length, ◌∙◌}
use Rattle.std.proofs.lemmas.List.Elements.{AllWithin-more_set}
use Rattle.lg_http.specs.Meaning.Peers.{IsCurrent}
use Rattle.lg_http.specs.Meaning.Slots.{InSlot}
use Rattle.lg_http.proofs.SlotLaws.{parked_more, slots_after}
use Rattle.lg_http.proofs.slots.run_all.Goals as goal

pub loop-slot-preserved : goal.loop-slot-preserved
loop-slot-preserved g c =
    let slots = c.loop-slot.slot-items in
    let k = c.loop-slot.slot-index in
    let was = c.loop-slot.invariant in
    let ran = c.run_next-rest.ensures in
    let new = c.run_next-rest.new.slot in
    let within : c.loop-slot.slot-index < length c.loop-slot.slot-items = search rules in
    record {
      current = AllWithin-more_set slots k new within (InSlot (IsCurrent c.args.at c.args.version)) was.current ran.current;
      parked = parked_more slots k c.loop-slot.rest.parked c.run_next-rest.result.parked _ new was.parked ran.count (search rules) within;
      slots = λ h.
          let now = was.slots h in
          slots_after g.S.Site.answers g.S.Site.acts g.S.Site.version g.S.Site.waits c.args.desk.now.hosts c.loop-slot.desk.hosts
          g.S.Site.later g.met.S.Site.order c.args.desk.now.site c.loop-slot.desk.site slots k c.loop-slot.rest.parked
          c.run_next-rest.result.parked _ new c.args.ended.now.items c.loop-slot.ended.items c.run_next-rest.new.ended.items
          was.hosts was.site was.parked ran.count ran.few ran.bounded (search rules) within ran.had now.0 now.1;
      site = ran.site ∙ was.site;
      hosts = ran.hosts ∙ was.hosts;
    }
