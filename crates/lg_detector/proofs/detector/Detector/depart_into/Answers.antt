use Rattle.std.proofs.Common.{Option, ap, subst, ◌∙◌}
use Rattle.lg_rules.specs.declared.claim.Claim.{Claim}
use Rattle.lg_membership.specs.Support.State.{with_found, changed_by_leave}
use Rattle.lg_membership.proofs.LeaveLaws.{left-differing}
use Rattle.lg_detector.specs.Support.Reached.{IsReached}
use Rattle.lg_detector.specs.Support.State.{depart}
use Rattle.lg_detector.proofs.Reaching.{reached-member}
use Rattle.lg_detector.proofs.detector.Detector.depart_into.Goals as goal

pub returns-clause-differing : goal.returns-clause-differing
unfolding depart
returns-clause-differing c =
    let s = c.args.self.now in
    let reached : IsReached s = subst IsReached c.self.view_is c.self.invariant in
    c.put_changed.ensures
    ∙ ap (λ (o : Option Claim). with_found o c.clear.new.self.items) c.depart-changed.ensures.changes
    ∙ ap (with_found (changed_by_leave s.membership)) c.clear.ensures
    ∙ left-differing s.membership (reached-member s reached)
