use Rattle.std.proofs.Common.{subst, ◌∙◌}
use Rattle.lg_rules.specs.Meaning.View.{changed}
use Rattle.lg_membership.proofs.Shown.{rises-shown}
use Rattle.lg_detector.specs.Support.Reached.{IsReached}
use Rattle.lg_detector.specs.Support.State.{hear_each_state, records_about}
use Rattle.lg_detector.specs.Support.Step.{view_state}
use Rattle.lg_detector.proofs.Forgetting.{differing-about, older-heard, reached-heard}
use Rattle.lg_detector.proofs.Reaching.{reached-member}
use Rattle.lg_detector.proofs.detector.Detector.say_in_room.Goals as goal

pub returns-clause-differing : goal.returns-clause-differing
returns-clause-differing c =
    let s = c.args.self.now in
    let claims = c.args.claims.now in
    let reached : IsReached s = subst IsReached c.self.view_is c.self.invariant in
    let teller = c.args.teller.now in
    let heard = hear_each_state teller claims s in
    let before = c.as_slice.ensures.value ∙ c.records_about-before.ensures.records in
    c.put_differing.ensures
    ∙ (λ i. records_about claims (changed (before i) (view_state (c.hear_each.ensures.state i))))
    ∙ differing-about claims (view_state s) (view_state heard) (rises-shown s.membership (reached-member s reached))
    (rises-shown heard.membership (reached-member heard (reached-heard teller claims s reached))) (older-heard teller claims s reached)
