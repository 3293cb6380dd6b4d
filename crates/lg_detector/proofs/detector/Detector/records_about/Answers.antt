use Rattle.std.proofs.Common.{subst}
use Rattle.lg_membership.proofs.Shown.{rises-shown}
use Rattle.lg_detector.specs.Support.Reached.{IsReached}
use Rattle.lg_detector.specs.Support.Step.{view_state}
use Rattle.lg_detector.proofs.Forgetting.{no_records, more_records, rises_records}
use Rattle.lg_detector.proofs.Reaching.{reached-member}
use Rattle.lg_detector.proofs.detector.Detector.records_about.Goals as goal

pub loop-claim-init : goal.loop-claim-init
loop-claim-init c = no_records c.args.claims.now (view_state c.args.self.now) c.new-records.result.items c.new-records.ensures

pub put_changed-requires-clause-rises : goal.put_changed-requires-clause-rises
put_changed-requires-clause-rises c =
    let s = c.args.self.now in
    let reached : IsReached s = subst IsReached c.self.view_is c.self.invariant in
    rises_records c.args.claims.now (view_state s) c.loop-claim.records.items c.loop-claim.claim-index c.loop-claim.invariant (rises-shown s.membership (reached-member s reached))

pub loop-claim-preserved : goal.loop-claim-preserved
loop-claim-preserved c =
    let s = c.args.self.now in
    let reached : IsReached s = subst IsReached c.self.view_is c.self.invariant in
    more_records c.args.claims.now (view_state s) c.loop-claim.records.items c.put_changed.new.differing.items c.loop-claim.claim-index c.claim-item.result c.record_of.result
    c.loop-claim.invariant (rises-shown s.membership (reached-member s reached)) c.loop-claim-test.true c.claim-item.is c.record_of.ensures.state c.put_changed.ensures

pub returns-clause-rises : goal.returns-clause-rises
returns-clause-rises c =
    let s = c.args.self.now in
    let reached : IsReached s = subst IsReached c.self.view_is c.self.invariant in
    rises_records c.args.claims.now (view_state s) c.loop-claim.records.items c.loop-claim.claim-index c.loop-claim.invariant (rises-shown s.membership (reached-member s reached))
