use Rattle.std.proofs.Common.{◌≡◌, ◌+◌, ◌<◌, length, not, Option, ◌∙◌, ap, sym, subst, arith}
use Rattle.lg_detector.specs.Support.Kept.{state_in}
use Rattle.lg_detector.specs.Support.Reached.{IsReached}
use Rattle.lg_timing.specs.declared.config.Config.{Config}
use Rattle.lg_probe.specs.declared.relays.TheConstants.{MAX_RELAYS}
use Rattle.lg_probe.specs.Meaning.Relays.{Opened, asker_at, has_number}
use Rattle.lg_probe.specs.Support.Relays.{relays_with}
use Rattle.lg_detector.specs.Meaning.Relaying.{new_relay}
use Rattle.lg_detector.specs.Meaning.Timing.{nack_time, relay_time}
use Rattle.lg_detector.specs.Support.State.{State, open_relay, with_relay}
use Rattle.lg_detector.proofs.Reaching.{few_timers, reached-open}
use Rattle.lg_detector.proofs.RelayLaws.{none_at, others-closed}
use Rattle.lg_detector.proofs.TimerLaws.{length-filter}
use Rattle.lg_detector.proofs.detector.Detector.open_relay.Goals as goal

pub add-requires-clause-apart : goal.add-requires-clause-apart
add-requires-clause-apart c =
    let parts = c.deref_mut-parts.result.now in
    ap (asker_at parts.number) c.close.ensures.relays ∙ none_at parts.number _ (others-closed parts.number parts.relays)

pub add-requires-clause-room : goal.add-requires-clause-room
add-requires-clause-room c =
    let parts = c.deref_mut-parts.result.now in
    let here : state_in parts ≡ c.args.self.now = ap state_in c.deref_mut-parts.ensures.value ∙ c.self.view_is in
    let room : length parts.relays < MAX_RELAYS = subst (λ (s : State). length s.relays < MAX_RELAYS) (sym here) c.requires in
    omega (arith, room, ap length c.close.ensures.relays, length-filter (λ r. not (has_number parts.number r)) parts.relays)

pub set_relay-requires : goal.set_relay-requires
set_relay-requires c =
    let parts = c.deref_mut-parts.result.now in
    let before : IsReached (state_in parts) = subst IsReached (sym (ap state_in c.deref_mut-parts.ensures.value)) c.self.invariant in
    omega (arith, few_timers (state_in parts) before)

pub invariant_of-self : goal.invariant_of-self
unfolding open_relay
invariant_of-self c =
    let parts = c.deref_mut-parts.result.now in
    let before : IsReached (state_in parts) = subst IsReached (sym (ap state_in c.deref_mut-parts.ensures.value)) c.self.invariant in
    let here : state_in parts ≡ c.args.self.now = ap state_in c.deref_mut-parts.ensures.value ∙ c.self.view_is in
    let nack : c.milliseconds-now.result + c.nack_time.result ≡ parts.moment + nack_time parts.membership.config =
    λ i. c.milliseconds-now.ensures.milliseconds i + (c.nack_time.ensures.time ∙ ap (λ (o : Option Config). nack_time o) c.config-config.ensures.state) i in
    let end : c.milliseconds-now.result + c.relay_time.result ≡ parts.moment + relay_time parts.membership.config =
    λ i. c.milliseconds-now.ensures.milliseconds i + (c.relay_time.ensures.time ∙ ap (λ (o : Option Config). relay_time o) c.config-config.ensures.state) i in
    let opened = c.add.ensures.relays ∙ ap (λ rs. relays_with rs (Opened (new_relay parts.number c.args.target.now c.args.asker.now))) c.close.ensures.relays in
    let timers = c.set_relay.ensures ∙ (λ i. with_relay (nack i) (end i) parts.number parts.timers) in
    reached-open (state_in parts) _ c.args.target.now c.args.asker.now
    (λ i. record {
      events = parts.events;
      moment = parts.moment;
      score = parts.score;
      timers = timers i;
      order = parts.order;
      number = c.next_number-parts.ensures i;
      round = parts.round;
      gossip = parts.gossip;
      relays = opened i;
      membership = parts.membership;
    })
    (subst (λ (s : State). length s.relays < MAX_RELAYS) (sym here) c.requires) before
