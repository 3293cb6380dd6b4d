use Rattle.std.proofs.Common.{◌≡◌, None, refl, ap, sym, subst, ◌∙◌, arith}
use Rattle.lg_timers.specs.declared.timer.TimerId.TheVariants.{Gossip}
use Rattle.lg_timers.specs.Meaning.Timers.{without_timer}
use Rattle.lg_detector.specs.Support.Kept.{state_in}
use Rattle.lg_detector.specs.Support.State.{State, end_event, gossip_fired, next_gossip, with_gossip}
use Rattle.lg_detector.specs.Support.Reached.{IsReached}
use Rattle.lg_detector.proofs.Reaching.{few_timers, reached-ended, reached-gossip}
use Rattle.lg_detector.proofs.detector.Detector.gossip_anew.Goals as goal

pub renew_gossip-requires : goal.renew_gossip-requires
renew_gossip-requires c =
    let parts = c.deref_mut-parts.result.now in
    let before : IsReached (state_in parts) = subst IsReached (sym (ap state_in c.deref_mut-parts.ensures.value)) c.self.invariant in
    omega (arith, few_timers (state_in parts) before)

pub invariant_of-self : goal.invariant_of-self
unfolding end_event
invariant_of-self c =
    let parts = c.deref_mut-parts.result.now in
    let s = state_in parts in
    let is : s ≡ c.args.self.now = ap state_in c.deref_mut-parts.ensures.value ∙ c.self.view_is in
    let before : IsReached s = subst IsReached (sym (ap state_in c.deref_mut-parts.ensures.value)) c.self.invariant in
    let next : c.gossip_later-next.result ≡ next_gossip (gossip_fired s) =
    c.gossip_later-next.ensures ∙ ap (λ (t : State). next_gossip (gossip_fired t)) (sym is) in
    reached-ended (gossip_fired s) _
    ((λ i. record s { gossip = c.gossip_later-next.result; timers = c.renew_gossip.ensures i })
    ∙ ap (λ o. record s { gossip = o; timers = with_gossip None o (without_timer Gossip parts.timers) }) next)
    (reached-gossip s _ refl before)
