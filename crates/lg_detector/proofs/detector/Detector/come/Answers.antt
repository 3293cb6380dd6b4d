use Rattle.std.proofs.Common.{◌≡◌, ◌<◌, ◌∙◌, ◌+◌, max, arith, ap, sym, subst}
use Rattle.lg_detector.specs.declared.detector.TheConstants.{MAX_EVENTS}
use Rattle.lg_detector.specs.Support.Kept.{state_in}
use Rattle.lg_detector.specs.Support.Reached.{IsReached}
use Rattle.lg_detector.specs.Support.State.{State}
use Rattle.lg_detector.proofs.Reaching.{reached-come}
use Rattle.lg_detector.proofs.detector.Detector.come.Goals as goal

pub invariant_of-self : goal.invariant_of-self
invariant_of-self c =
    let parts = c.deref_mut-parts.result.now in
    let before : IsReached (state_in parts) = subst IsReached (sym (ap state_in c.deref_mut-parts.ensures.value)) c.self.invariant in
    let later : c.later-parts.result ≡ max c.args.now parts.moment = omega (arith, c.later-parts.ensures) in
    reached-come (state_in parts) _ c.args.now
    (λ i. record { events = parts.events + 1; moment = later i; score = parts.score; timers = parts.timers; order = parts.order; number = parts.number; round = parts.round; gossip = parts.gossip; relays = parts.relays; membership = parts.membership })
    (subst (λ (s : State). s.events < MAX_EVENTS) (sym (ap state_in c.deref_mut-parts.ensures.value ∙ c.self.view_is)) c.requires) before
