use Rattle.std.proofs.Common.{subst}
use Rattle.lg_rules.specs.Meaning.Claim.{name_of}
use Rattle.lg_rules.specs.Meaning.View.{changed}
use Rattle.lg_rules.proofs.KeyOrder.{names_order}
use Rattle.lg_membership.proofs.Shown.{rises-shown}
use Rattle.lg_detector.specs.Support.Reached.{IsReached}
use Rattle.lg_detector.specs.Support.Step.{view_state}
use Rattle.lg_detector.proofs.Forgetting.{differs, no_records, more_records, rises_records}
use Rattle.lg_detector.proofs.Reaching.{reached-member}
use Rattle.lg_detector.proofs.RowFilters.{rises-kept}
use Rattle.lg_detector.proofs.detector.Detector.put_differing.Goals as goal

pub loop-claim-init : goal.loop-claim-init
loop-claim-init c = no_records c.args.claims.now (changed c.args.before.now (view_state c.args.self.now)) c.clear.new.self.items c.clear.ensures

pub put_changed-requires-clause-rises : goal.put_changed-requires-clause-rises
put_changed-requires-clause-rises c =
    let s = c.args.self.now in
    let reached : IsReached s = subst IsReached c.self.view_is c.self.invariant in
    let rise = rises-kept names_order name_of (differs c.args.before.now) (view_state s) (rises-shown s.membership (reached-member s reached)) in
    rises_records c.args.claims.now (changed c.args.before.now (view_state s)) c.loop-claim.differing.items c.loop-claim.claim-index c.loop-claim.invariant rise

pub loop-claim-preserved : goal.loop-claim-preserved
loop-claim-preserved c =
    let s = c.args.self.now in
    let reached : IsReached s = subst IsReached c.self.view_is c.self.invariant in
    let rise = rises-kept names_order name_of (differs c.args.before.now) (view_state s) (rises-shown s.membership (reached-member s reached)) in
    more_records c.args.claims.now (changed c.args.before.now (view_state s)) c.loop-claim.differing.items c.put_changed.new.differing.items c.loop-claim.claim-index c.claim-item.result
    c.differing_from.result c.loop-claim.invariant rise c.loop-claim-test.true c.claim-item.is c.differing_from.ensures c.put_changed.ensures
