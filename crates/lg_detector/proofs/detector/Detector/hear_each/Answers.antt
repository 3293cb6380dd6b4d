use Rattle.lg_detector.proofs.Forgetting.{more_heard}
use Rattle.lg_detector.proofs.detector.Detector.hear_each.Goals as goal

pub loop-claim-preserved : goal.loop-claim-preserved
loop-claim-preserved c =
    more_heard c.args.teller.now c.args.self.now c.loop-claim.self c.make_room.new.self c.apply.new.self c.args.claims.now c.loop-claim.claim-index
    c.claim-item.result c.as_merged-said.result c.loop-claim.forgotten.items c.make_room.new.forgotten.items c.loop-claim.invariant c.loop-claim-test.true
    c.claim-item.is c.make_room.ensures.state c.as_merged-said.ensures c.apply.ensures.state c.make_room.ensures.forgotten
