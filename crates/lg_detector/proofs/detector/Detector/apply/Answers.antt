use Rattle.std.proofs.Common.{length, ap, sym, subst, ◌∙◌, arith}
use Rattle.lg_timers.specs.declared.timer.TimerId.TheVariants.{Suspicion, Forget}
use Rattle.lg_membership.specs.declared.applied.Applied.{Applied}
use Rattle.lg_detector.specs.Support.Kept.{state_in}
use Rattle.lg_detector.specs.Support.Reached.{IsReached}
use Rattle.lg_detector.specs.Support.State.{marked_if, follow, forget_deadline, reorder, apply_state}
use Rattle.lg_detector.proofs.OrderLaws.{room_joined}
use Rattle.lg_detector.proofs.Reaching.{few_timers, reached-apply}
use Rattle.lg_detector.proofs.TimerLaws.{length-followed}
use Rattle.lg_detector.proofs.detector.Detector.apply.Goals as goal

pub follow_suspicion-requires : goal.follow_suspicion-requires
follow_suspicion-requires c =
    let parts = c.deref_mut-parts.result.now in
    let before : IsReached (state_in parts) = subst IsReached (sym (ap state_in c.deref_mut-parts.ensures.value)) c.self.invariant in
    omega (arith, few_timers (state_in parts) before)

pub follow_forget-requires : goal.follow_forget-requires
follow_forget-requires c =
    let parts = c.deref_mut-parts.result.now in
    let before : IsReached (state_in parts) = subst IsReached (sym (ap state_in c.deref_mut-parts.ensures.value)) c.self.invariant in
    omega (arith, few_timers (state_in parts) before, ap length c.follow_suspicion.ensures, length-followed (Suspicion c.args.claim.now.name) c.apply-applied.result.deadline parts.timers)

pub reorder-requires : goal.reorder-requires
reorder-requires c = λ joins.
    let parts = c.deref_mut-parts.result.now in
    let before : IsReached (state_in parts) = subst IsReached (sym (ap state_in c.deref_mut-parts.ensures.value)) c.self.invariant in
    room_joined (state_in parts) before.log c.args.claim.now before.is (sym (ap (λ (a : Applied). a.presence) c.apply-applied.ensures.applied) ∙ joins)

pub invariant_of-self : goal.invariant_of-self
unfolding apply_state
invariant_of-self c =
    let parts = c.deref_mut-parts.result.now in
    let before : IsReached (state_in parts) = subst IsReached (sym (ap state_in c.deref_mut-parts.ensures.value)) c.self.invariant in
    let applied = c.apply-applied.ensures.applied in
    let score = c.mark_if.ensures ∙ ap (λ (a : Applied). marked_if a.refuted parts.score) applied in
    let name = c.args.claim.now.name in
    let susp = c.follow_suspicion.ensures ∙ ap (λ (a : Applied). follow (Suspicion name) a.deadline parts.timers) applied in
    let until = c.forget_after-until.ensures
    ∙ (λ i. forget_deadline parts.moment (applied i).changed (c.apply-applied.ensures.state i)) in
    let timers = c.follow_forget.ensures ∙ (λ i. follow (Forget name) (until i) (susp i)) in
    let order = c.reorder.ensures ∙ ap (λ (a : Applied). reorder c.args.claim.now.name a.presence parts.order) applied in
    reached-apply (state_in parts) _ c.args.origin c.args.claim.now
    (λ i. record { events = parts.events; moment = parts.moment; score = score i; timers = timers i; order = order i; number = parts.number; round = parts.round; gossip = parts.gossip; relays = parts.relays; membership = c.apply-applied.ensures.state i })
    before
