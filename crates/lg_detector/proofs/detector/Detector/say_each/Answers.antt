use Rattle.std.proofs.Common.{subst, arith}
use Rattle.lg_detector.specs.Support.Reached.{IsReached}
use Rattle.lg_detector.proofs.Applying.{begins, way_room, way_rises, goes_on_by, all_differing}
use Rattle.lg_detector.proofs.detector.Detector.say_each.Goals as goal

pub loop-claim-init : goal.loop-claim-init
loop-claim-init c =
    let reached : IsReached c.args.self.now = subst IsReached c.self.view_is c.self.invariant in
    begins c.args.self.now c.args.claims.now c.clear.new.self.items reached c.clear.ensures

pub put_changed-requires-clause-room : goal.put_changed-requires-clause-room
put_changed-requires-clause-room c =
    omega (arith, way_room c.args.self.now c.loop-claim.self c.args.claims.now c.loop-claim.claim-index c.loop-claim.differing.items c.loop-claim.invariant, c.loop-claim-test.true, c.requires)

pub put_changed-requires-clause-rises : goal.put_changed-requires-clause-rises
put_changed-requires-clause-rises c =
    way_rises c.args.self.now c.loop-claim.self c.args.claims.now c.loop-claim.claim-index c.loop-claim.differing.items c.loop-claim.invariant

pub loop-claim-preserved : goal.loop-claim-preserved
loop-claim-preserved c =
    goes_on_by c.args.self.now c.loop-claim.self c.apply-changed.new.self c.args.claims.now c.loop-claim.claim-index c.loop-claim.differing.items c.put_changed.new.differing.items
    c.claim-item.result c.apply-changed.result c.loop-claim.invariant c.loop-claim-test.true c.claim-item.is c.apply-changed.ensures.state c.apply-changed.ensures.changes c.put_changed.ensures

pub returns-clause-differing : goal.returns-clause-differing
returns-clause-differing c =
    let reached : IsReached c.args.self.now = subst IsReached c.self.view_is c.self.invariant in
    all_differing c.args.self.now c.loop-claim.self c.args.claims.now c.loop-claim.claim-index c.loop-claim.differing.items reached c.loop-claim.invariant (omega (arith, c.loop-claim-test.false))
