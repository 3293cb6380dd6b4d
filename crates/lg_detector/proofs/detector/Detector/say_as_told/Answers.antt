use Rattle.std.proofs.Common.{◌≡◌, true, length, ap, sym, subst, ◌∙◌}
use Rattle.lg_rules.specs.Meaning.View.{changed}
use Rattle.lg_membership.specs.Support.State.{has_room_in}
use Rattle.lg_detector.specs.Support.Kept.{state_in}
use Rattle.lg_detector.specs.Support.Reached.{IsReached}
use Rattle.lg_detector.specs.Support.State.{State}
use Rattle.lg_detector.specs.Support.Step.{view_state}
use Rattle.lg_detector.proofs.Forgetting.{heard-roomy, forgotten-roomy}
use Rattle.lg_detector.proofs.detector.Detector.say_as_told.Goals as goal

pub returns-then-has_room_for-clause-state : goal.returns-then-has_room_for-clause-state
returns-then-has_room_for-clause-state c =
    let s = c.args.self.now in
    let claims = c.args.claims.now in
    let reached : IsReached s = subst IsReached c.self.view_is c.self.invariant in
    let here : state_in c.deref.result.now ≡ s = ap state_in c.deref.ensures ∙ c.self.view_is in
    let roomy : has_room_in (length claims) s.membership ≡ true =
    ap (λ (t : State). has_room_in (length claims) t.membership) (sym here) ∙ sym c.has_room_for.ensures.state ∙ c.if-has_room_for.true in
    c.say_each.ensures.state ∙ sym (heard-roomy claims s reached roomy)

pub returns-then-has_room_for-clause-differing : goal.returns-then-has_room_for-clause-differing
returns-then-has_room_for-clause-differing c =
    let s = c.args.self.now in
    let claims = c.args.claims.now in
    let reached : IsReached s = subst IsReached c.self.view_is c.self.invariant in
    let here : state_in c.deref.result.now ≡ s = ap state_in c.deref.ensures ∙ c.self.view_is in
    let roomy : has_room_in (length claims) s.membership ≡ true =
    ap (λ (t : State). has_room_in (length claims) t.membership) (sym here) ∙ sym c.has_room_for.ensures.state ∙ c.if-has_room_for.true in
    c.say_each.ensures.differing ∙ ap (λ (t : State). changed (view_state s) (view_state t)) (sym (heard-roomy claims s reached roomy))

pub returns-then-has_room_for-clause-forgotten : goal.returns-then-has_room_for-clause-forgotten
returns-then-has_room_for-clause-forgotten c =
    let s = c.args.self.now in
    let claims = c.args.claims.now in
    let reached : IsReached s = subst IsReached c.self.view_is c.self.invariant in
    let here : state_in c.deref.result.now ≡ s = ap state_in c.deref.ensures ∙ c.self.view_is in
    let roomy : has_room_in (length claims) s.membership ≡ true =
    ap (λ (t : State). has_room_in (length claims) t.membership) (sym here) ∙ sym c.has_room_for.ensures.state ∙ c.if-has_room_for.true in
    c.clear.ensures ∙ sym (forgotten-roomy claims s reached roomy)
