-- What each fact makes of a state that some log has is such a state again; and few timers are set in it.
use Rattle.std.proofs.Common.{◌≡◌, ℕ, ◌+◌, ◌<◌, ◌≤◌, Bool, not, List, [], ◌∷◌, ◌++◌, length, refl, sym, ◌∙◌, ap, subst, arith, length-append}
use Rattle.std.specs.Prelude.{filter}
use Rattle.lg_rules.specs.declared.claim.Claim.{Claim}
use Rattle.lg_timing.specs.declared.config.Config.{Config}
use Rattle.lg_timing.specs.Meaning.Config.{IsChecked}
use Rattle.lg_timers.specs.declared.timer.TimerId.{TimerId}
use Rattle.lg_timers.specs.declared.timer.TimerId.TheVariants.{RoundEnd, Direct}
use Rattle.lg_timers.specs.declared.timer.TimerId.TheVariants.{RelayNack, RelayEnd, RoundStart, Gossip}
use Rattle.lg_timers.specs.declared.timers.TheConstants.{MAX_TIMERS}
use Rattle.lg_probe.specs.declared.relays.Asker.{Asker}
use Rattle.lg_probe.specs.declared.relays.Relay.{Relay}
use Rattle.lg_probe.specs.declared.relays.TheConstants.{MAX_RELAYS}
use Rattle.lg_probe.specs.Meaning.Relays.{has_number, is_ended}
use Rattle.lg_membership.specs.declared.origin.Origin.{Origin}
use Rattle.lg_membership.specs.Meaning.Log as group
use Rattle.lg_membership.specs.Meaning.Suspicions.{suspicions}
use Rattle.lg_membership.specs.Support.Reached as member
use Rattle.lg_membership.specs.Support.Reached.{IsGroupReached}
use Rattle.lg_membership.proofs.Reaching.{config-apply, reached-forget as member-forget}
use Rattle.lg_detector.specs.declared.detector.TheConstants.{MAX_EVENTS}
use Rattle.lg_detector.specs.Meaning.Forget.{gone}
use Rattle.lg_detector.specs.Meaning.Log.{Log, Came, Fired, AckHeard, NackHeard, Relayed, Ended, OfGroup, group_log}
use Rattle.lg_detector.specs.Meaning.Probing.{probe, since_start}
use Rattle.lg_detector.specs.Meaning.Relaying.{relays, relay_has_nacked, opened_at, new_relay}
use Rattle.lg_detector.specs.Meaning.Timing.{gossip_at, gossip_timers, round_start, round_timers, pending, nack_time, relay_time, end_at, direct_at}
use Rattle.lg_detector.specs.Meaning.Apply as to_log
use Rattle.lg_detector.specs.Support.State.{State, come_state, begin, apply_state, apply_all_state, send_taken}
use Rattle.lg_detector.specs.Support.State.{fire_state, fire_id, start_round, state_of}
use Rattle.lg_detector.specs.Support.State.{ask_helpers, depart, end_event, end_round, gossip_fired, nack_relay, close_relay, hear_ack, hear_nack}
use Rattle.lg_detector.specs.Support.State.{open_relay, forget_name}
use Rattle.lg_membership.specs.Support.State.{forget_from_group}
use Rattle.lg_detector.specs.Support.Reached.{IsReached}
use Rattle.lg_detector.proofs.FactLaws.{come-state, begin-state, apply-state, forget-state, send-state}
use Rattle.lg_detector.proofs.GoneLaws.{few-waiting}
use Rattle.lg_detector.proofs.ProbeLaws.{depart-state, fire-state, ack-state, ended-state, nack-heard, relayed-state}
use Rattle.lg_detector.proofs.TimerLaws.{length-turned, length-round, length-filter}

-- at most 387: three of the round, one of the next gossip, two a relay, and one for each other member that is suspected or
-- is to be forgotten
few : (log : Log) → length (relays log) ≤ MAX_RELAYS → length (pending log) + 2 < MAX_TIMERS
few log le =
    let g = group_log log in
    omega (
      arith,
      le,
      length-turned (round_timers log ++ gossip_timers (gossip_at log)) (λ k. opened_at log k + nack_time (group.config g)) (λ k. opened_at log k + relay_time (group.config g)) (λ r. not (relay_has_nacked log r.number)) (relays log) (record { rows = suspicions g; gone = gone g }),
      length-round (end_at log) (direct_at log) (probe log) (since_start log) (round_start log) (gossip_at log),
      few-waiting g,
    )

pub few_timers : (s : State) → IsReached s → length s.timers + 2 < MAX_TIMERS
few_timers s r = subst (λ (t : State). length t.timers + 2 < MAX_TIMERS) (sym r.is) (few r.log (subst (λ (t : State). length t.relays ≤ MAX_RELAYS) r.is r.few_relays))

-- what it knows of the group is reached, too
pub reached-member : (s : State) → IsReached s → IsGroupReached s.membership
reached-member s r = record { log = group_log r.log; is = ap (λ (t : State). t.membership) r.is; good = r.good }

-- A state that a fact leads to: its configuration is the same, and the bounds hold of it.
leads : (s after : State) (log : Log) → after ≡ s → s ≡ state_of log → member.IsGood s.membership.config → s.events ≤ MAX_EVENTS → length s.relays ≤ MAX_RELAYS → IsReached after
leads s after log e is good most few = subst IsReached (sym e) (record { log = log; is = is; good = good; few_events = most; few_relays = few })

pub reached-come : (s after : State) (now : ℕ) → after ≡ come_state now s → s.events < MAX_EVENTS → IsReached s → IsReached after
reached-come s after now e room r = leads (come_state now s) after (Came now ∷ r.log) e (ap (come_state now) r.is ∙ come-state now r.log) r.good (omega (arith, room)) r.few_relays

pub reached-begin : (s after : State) (opening : Config) → after ≡ begin opening s → IsChecked opening → IsReached s → IsReached after
reached-begin s after opening e checked r =
    leads (begin opening s) after (OfGroup (group.Opened opening) ∷ r.log) e (ap (begin opening) r.is ∙ begin-state opening r.log) checked r.few_events (omega arith)

-- a claim leaves the configuration, the number of events and the relays
pub config-apply-in : (origin : Origin) (c : Claim) (s : State) → (apply_state origin c s).membership.config ≡ s.membership.config
unfolding apply_state
config-apply-in origin c s = config-apply s.moment origin c s.membership

pub events-apply : (origin : Origin) (c : Claim) (s : State) → (apply_state origin c s).events ≡ s.events
unfolding apply_state
events-apply origin c s = refl

pub events-apply_all : (origin : Origin) (cs : List Claim) (s : State) → (apply_all_state origin cs s).events ≡ s.events
events-apply_all origin [] s = refl
events-apply_all origin (c ∷ cs) s = events-apply_all origin cs (apply_state origin c s) ∙ events-apply origin c s

relays-apply : (origin : Origin) (c : Claim) (s : State) → (apply_state origin c s).relays ≡ s.relays
unfolding apply_state
relays-apply origin c s = refl

pub reached-apply : (s after : State) (origin : Origin) (c : Claim) → after ≡ apply_state origin c s → IsReached s → IsReached after
reached-apply s after origin c e r =
    leads (apply_state origin c s) after (to_log.apply origin c r.log) e (ap (apply_state origin c) r.is ∙ apply-state origin c r.log) (subst member.IsGood (sym (config-apply-in origin c s)) r.good) (omega (arith, r.few_events, events-apply origin c s))
    (subst (λ (rs : List Relay). length rs ≤ MAX_RELAYS) (sym (relays-apply origin c s)) r.few_relays)

pub reached-send : (s after : State) (taken : List Claim) → after ≡ send_taken taken s → IsReached s → IsReached after
reached-send s after taken e r =
    leads (send_taken taken s) after (OfGroup (group.Sent taken) ∷ r.log) e (ap (send_taken taken) r.is ∙ send-state taken r.log) r.good r.few_events r.few_relays

pub reached-forget : (s after : State) (m : List ℕ) → after ≡ forget_name m s → IsReached s → IsReached after
unfolding forget_name
reached-forget s after m e r =
    leads (forget_name m s) after (OfGroup (group.Forgot m) ∷ r.log) e (ap (forget_name m) r.is ∙ forget-state m r.log)
    (member-forget m s.membership (forget_from_group m s.membership) refl (reached-member s r)).good r.few_events r.few_relays

pub reached-depart : (s after : State) → after ≡ depart s → IsReached s → IsReached after
unfolding depart
reached-depart s after e r =
    leads (depart s) after (OfGroup group.Departed ∷ r.log) e (ap depart r.is ∙ depart-state r.log) r.good r.few_events r.few_relays

-- What a timer that fires leads to.
length-fewer : (p : Relay → Bool) (rs : List Relay) (m : ℕ) → length rs ≤ m → length (filter p rs) ≤ m
length-fewer p rs m le = omega (arith, le, length-filter p rs)

-- a timer, by its id
fires : (id : TimerId) (words : List ℕ) (s : State) → fire_state (record { deadline = 0; id = id }) words s ≡ fire_id id words s
unfolding fire_state
fires id words s = refl

fired-state : (id : TimerId) (words : List ℕ) (s : State) (r : IsReached s) → fire_id id words s ≡ state_of (to_log.fire (record { deadline = 0; id = id }) words r.log)
fired-state id words s r = sym (fires id words s) ∙ ap (fire_state (record { deadline = 0; id = id }) words) r.is ∙ fire-state (record { deadline = 0; id = id }) words r.log

pub reached-start : (s after : State) (words : List ℕ) → after ≡ start_round words s → IsReached s → IsReached after
reached-start s after words e r =
    leads (start_round words s) after (Fired (record { deadline = 0; id = RoundStart }) words ∷ r.log) e (fired-state RoundStart words s r) r.good r.few_events r.few_relays

pub reached-direct : (s after : State) (words : List ℕ) → after ≡ ask_helpers words s → IsReached s → IsReached after
reached-direct s after words e r =
    leads (ask_helpers words s) after (Fired (record { deadline = 0; id = Direct }) words ∷ r.log) e (fired-state Direct words s r) r.good r.few_events r.few_relays

pub reached-end : (s after : State) → after ≡ end_round s → IsReached s → IsReached after
reached-end s after e r =
    leads (end_round s) after (Fired (record { deadline = 0; id = RoundEnd }) [] ∷ r.log) e (fired-state RoundEnd [] s r) r.good r.few_events r.few_relays

pub reached-nack_relay : (s after : State) (k : ℕ) → after ≡ nack_relay k s → IsReached s → IsReached after
reached-nack_relay s after k e r =
    leads (nack_relay k s) after (Fired (record { deadline = 0; id = RelayNack k }) [] ∷ r.log) e (fired-state (RelayNack k) [] s r) r.good r.few_events r.few_relays

pub reached-gossip : (s after : State) → after ≡ gossip_fired s → IsReached s → IsReached after
reached-gossip s after e r =
    leads (gossip_fired s) after (Fired (record { deadline = 0; id = Gossip }) [] ∷ r.log) e (fired-state Gossip [] s r) r.good r.few_events r.few_relays

pub reached-ended : (s after : State) → after ≡ end_event s → IsReached s → IsReached after
unfolding end_event
reached-ended s after e r =
    leads (end_event s) after (Ended ∷ r.log) e (ap end_event r.is ∙ ended-state r.log) r.good r.few_events r.few_relays

pub reached-close : (s after : State) (k : ℕ) → after ≡ close_relay k s → IsReached s → IsReached after
reached-close s after k e r =
    leads (close_relay k s) after (Fired (record { deadline = 0; id = RelayEnd k }) [] ∷ r.log) e (fired-state (RelayEnd k) [] s r) r.good r.few_events
    (length-fewer (λ r. not (has_number k r)) s.relays MAX_RELAYS r.few_relays)

pub reached-ack : (s after : State) (k : ℕ) (sender : List ℕ) → after ≡ hear_ack k sender s → IsReached s → IsReached after
unfolding hear_ack
reached-ack s after k sender e r =
    leads (hear_ack k sender s) after (AckHeard k sender ∷ r.log) e (ap (hear_ack k sender) r.is ∙ ack-state k sender r.log) r.good r.few_events
    (length-fewer (λ r. not (is_ended k sender r)) s.relays MAX_RELAYS r.few_relays)

pub reached-nack : (s after : State) (k : ℕ) (sender : List ℕ) → after ≡ hear_nack k sender s → IsReached s → IsReached after
unfolding hear_nack
reached-nack s after k sender e r =
    leads (hear_nack k sender s) after (NackHeard k sender ∷ r.log) e (ap (hear_nack k sender) r.is ∙ nack-heard k sender r.log) r.good r.few_events r.few_relays

pub reached-open : (s after : State) (target : List ℕ) (asker : Asker) → after ≡ open_relay target asker s → length s.relays < MAX_RELAYS → IsReached s → IsReached after
unfolding open_relay
reached-open s after target asker e room r =
    leads (open_relay target asker s) after (Relayed target asker ∷ r.log) e (ap (open_relay target asker) r.is ∙ relayed-state target asker r.log) r.good r.few_events
    (omega (arith, room, length-filter (λ r. not (has_number s.number r)) s.relays, length-append (filter (λ (r : Relay). not (has_number s.number r)) s.relays) (new_relay s.number target asker ∷ [])))
