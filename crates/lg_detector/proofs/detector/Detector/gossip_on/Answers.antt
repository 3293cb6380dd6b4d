use Rattle.std.proofs.Common.{◌≡◌, ap, sym, subst, ◌∙◌, arith}
use Rattle.lg_detector.specs.Support.Kept.{state_in}
use Rattle.lg_detector.specs.Support.State.{end_event, next_gossip, with_gossip}
use Rattle.lg_detector.specs.Support.Reached.{IsReached}
use Rattle.lg_detector.proofs.Reaching.{few_timers, reached-ended}
use Rattle.lg_detector.proofs.detector.Detector.gossip_on.Goals as goal

pub set_gossip-requires : goal.set_gossip-requires
set_gossip-requires c =
    let parts = c.deref_mut-parts.result.now in
    let before : IsReached (state_in parts) = subst IsReached (sym (ap state_in c.deref_mut-parts.ensures.value)) c.self.invariant in
    omega (arith, few_timers (state_in parts) before)

pub invariant_of-self : goal.invariant_of-self
unfolding end_event
invariant_of-self c =
    let parts = c.deref_mut-parts.result.now in
    let s = state_in parts in
    let is : s ≡ c.args.self.now = ap state_in c.deref_mut-parts.ensures.value ∙ c.self.view_is in
    let before : IsReached s = subst IsReached (sym (ap state_in c.deref_mut-parts.ensures.value)) c.self.invariant in
    let next : c.next_gossip-next.result ≡ next_gossip s = c.next_gossip-next.ensures ∙ ap next_gossip (sym is) in
    reached-ended s _
    ((λ i. record s { gossip = c.next_gossip-next.result; timers = c.set_gossip.ensures i })
    ∙ ap (λ o. record s { gossip = o; timers = with_gossip parts.gossip o parts.timers }) next)
    before
