-- The facts of probing change the state as their definitions do: a timer fires, an Ack or a Nack comes, a relay is
-- opened.
use Rattle.std.proofs.Common.{◌≡◌, ℕ, ◌+◌, Bool, true, false, not, cond, ◌||◌, ◌&&◌, List, [], ◌∷◌, ◌++◌, Option, Some, None, option_map, inl, inr, refl, sym, ◌∙◌, ap}
use Rattle.std.specs.Prelude.{ℤ, filter, is_some, ◌==◌}
use Rattle.std.proofs.lemmas.Bool.{cases_Bool}
use Rattle.lg_timing.specs.Meaning.Score.{ScoreValue, score_of}
use Rattle.lg_timers.specs.declared.timer.Timer.{Timer}
use Rattle.lg_timers.specs.Meaning.Timers.{without_timer}
use Rattle.lg_timers.specs.declared.timer.TimerId.{TimerId}
use Rattle.lg_timers.specs.declared.timer.TimerId.TheVariants.{RoundEnd, Suspicion, Direct}
use Rattle.lg_timers.specs.declared.timer.TimerId.TheVariants.{RelayNack, RelayEnd, RoundStart, Forget, Gossip}
use Rattle.lg_probe.specs.declared.relays.Asker.{Asker}
use Rattle.lg_probe.specs.declared.relays.Relay.{Relay}
use Rattle.lg_probe.specs.Meaning.Order.{OrderValue}
use Rattle.lg_probe.specs.Meaning.Relays.{ended_asker}
use Rattle.lg_probe.specs.Meaning.Round.{RoundFact, RoundValue, Asked, Acked, Nacked, asked_in, is_acked, ack_counts, round_of, round_with}
use Rattle.lg_probe.proofs.RoundLaws.{asked_after, nacked_after}
use Rattle.lg_membership.specs.Meaning.Gossip.{version_sent}
use Rattle.lg_membership.specs.Meaning.Log as group
use Rattle.lg_membership.specs.Meaning.Log.{group_view}
use Rattle.lg_membership.specs.Meaning.Suspicions.{suspicions}
use Rattle.lg_membership.specs.Support.State.{group_state_of}
use Rattle.lg_membership.proofs.FactLaws.{leave-state}
use Rattle.lg_membership.proofs.SuspicionLaws.{suspicions-left}
use Rattle.lg_detector.specs.Meaning.Apply as to_log
use Rattle.lg_detector.specs.Meaning.Forget.{gone}
use Rattle.lg_detector.specs.Meaning.Log.{Log, Fired, AckHeard, NackHeard, Relayed, Ended, OfGroup, event_count, moment, group_log}
use Rattle.lg_detector.specs.Meaning.Probing as probing
use Rattle.lg_detector.specs.Meaning.Probing.{Probe, number, next_number, probe, since_start, round, round_at, new_probe, first_word, target, helpers_of, asked_about}
use Rattle.lg_detector.specs.Meaning.Relaying.{relays, relay_has_nacked, opened_at}
use Rattle.lg_detector.specs.Meaning.Timing as timing
use Rattle.lg_detector.specs.Meaning.Timing.{gossip_at, gossip_by, gossip_delay, gossip_timers, has_to_tell, earned, max_in, score, round_start, round_timers, nack_timers, relay_timers, pending, nack_time, relay_time, end_at, direct_at, is_first, mark_of_ack}
use Rattle.lg_detector.specs.Support.State as state
use Rattle.lg_detector.specs.Support.State.{helpers_state}
use Rattle.lg_detector.specs.Support.State.{State, state_of, order_of, fire_state, fire_id, start_probe, marked_end}
use Rattle.lg_detector.specs.Support.State.{marked_ack, hear_ack, hear_nack, open_relay}
use Rattle.lg_detector.proofs.FactLaws.{forget-state}
use Rattle.lg_detector.proofs.GoneLaws.{gone-left}
use Rattle.lg_detector.proofs.OrderLaws.{order-chose, order-left, chosen-is}
use Rattle.lg_detector.proofs.RelayLaws.{relays_apart, nacked-timers, closed-timers, ended-timers, opened-timers, nacks-opened, ends-opened, relays-opened, relays-acked, relays-closed}
use Rattle.lg_detector.proofs.TimerLaws.{kept_or, gossip-set, gossip-fired, round_parts, Waiting, turned, nacks, ends, runs, AreRound, are_round, start-set, probe-set, without-direct, first-direct, asked-timers, acked-timers}

-- what gives the deadlines of the relays of a log, and which of them sent no Nack
abbrev nack_at : Log → ℕ → ℕ
nack_at log k = opened_at log k + nack_time (group.config (group_log log))

abbrev relay_at : Log → ℕ → ℕ
relay_at log k = opened_at log k + relay_time (group.config (group_log log))

abbrev is_silent : Log → Relay → Bool
is_silent log r = not (relay_has_nacked log r.number)

abbrev rows : Log → Waiting
rows log = record { rows = suspicions (group_log log); gone = gone (group_log log) }

-- the timers of the round, with that of the next gossip
abbrev pub ours : Log → List Timer
ours log = round_timers log ++ gossip_timers (gossip_at log)

abbrev rest : Log → List Timer
rest log = gossip_timers (gossip_at log)

are : (log : Log) → AreRound (rest log) (ours log)
are log = are_round (end_at log) (direct_at log) (probe log) (since_start log) (round_start log) (gossip_at log)

-- A probe runs, or none does, by the last start of a round.
target-is : (p : Option Probe) (past : List RoundFact) → option_map (λ r. r.target) (round_at past p) ≡ option_map (λ p. p.target) p
target-is None past = refl
target-is (Some p) past = refl

-- A round starts: the state after it, by whom it chooses.
abbrev after_start : Log → Option (List ℕ) → OrderValue → State
after_start log o order =
    let later = timing.interval_later log in
    record {
      events = event_count log;
      moment = moment log;
      score = score log;
      timers = turned ((timing.probe_timers later (timing.timeout_later log) (new_probe (number log) o) [] ++ timing.start_timers (timing.start_unless later o)) ++ rest log) (nack_timers log) (relay_timers log) (runs (rows log));
      order = order;
      number = cond (is_some o) (next_number (number log)) (number log);
      round = round_at [] (new_probe (number log) o);
      gossip = gossip_at log;
      relays = relays log;
      membership = group_state_of (group_log log);
    }

start-by : (log : Log) (o : Option (List ℕ)) (order : OrderValue) → start_probe o (record (state_of log) { order = order }) ≡ after_start log o order
start-by log None order = λ i. record {
  events = event_count log;
  moment = moment log;
  score = score log;
  timers = start-set (nack_at log) (relay_at log) (filter (is_silent log) (relays log)) (relays log) (rows log) (timing.interval_later log) (rest log) (ours log) (are log) i;
  order = order;
  number = number log;
  round = None;
  gossip = gossip_at log;
  relays = relays log;
  membership = group_state_of (group_log log);
}
start-by log (Some m) order = λ i. record {
  events = event_count log;
  moment = moment log;
  score = score log;
  timers = probe-set (nack_at log) (relay_at log) (filter (is_silent log) (relays log)) (relays log) (rows log) (timing.interval_later log) (timing.timeout_later log) (rest log) (ours log) (are log) i;
  order = order;
  number = next_number (number log);
  round = Some (round_of (number log) m []);
  gossip = gossip_at log;
  relays = relays log;
  membership = group_state_of (group_log log);
}

start-state : (d : ℕ) (words : List ℕ) (log : Log) → state.start_round words (state_of log) ≡ state_of (Fired (record { deadline = d; id = RoundStart }) words ∷ log)
start-state d words log =
    let order = state.chose_unless (probing.has_left log) (first_word words) (order_of log) in
    ap (λ o. start_probe o (record (state_of log) { order = order })) (chosen-is words log)
    ∙ start-by log (probing.chosen words log) order
    ∙ ap (after_start log (probing.chosen words log)) (order-chose words log)

-- helpers are asked
pub helpers-is : (words : List ℕ) (log : Log) → helpers_state words (state_of log) ≡ probing.helpers words log
helpers-is words log =
    let g = group_log log in
    ap (λ t. helpers_of (probing.indirect_in (group.config g)) words (probing.others log) (asked_about (version_sent (group.config g)) (group_view g) t))
    (target-is (probe log) (since_start log))

asked-round : (p : Option Probe) (past : List RoundFact) (helpers : List (List ℕ)) → option_map (λ r. round_with r (Asked helpers)) (round_at past p) ≡ round_at (Asked helpers ∷ past) p
asked-round None past helpers = refl
asked-round (Some p) past helpers = ap Some (asked_after p.number p.target past helpers)

direct-state : (d : ℕ) (words : List ℕ) (log : Log) → state.ask_helpers words (state_of log) ≡ state_of (Fired (record { deadline = d; id = Direct }) words ∷ log)
direct-state d words log =
    let silent = filter (is_silent log) (relays log) in
    let timers = without-direct (nack_at log) (relay_at log) silent (relays log) (rows log) (ours log)
    ∙ ap (λ ts. turned ts (nack_timers log) (relay_timers log) (runs (rows log)))
    (asked-timers (end_at log) (direct_at log) (probe log) (since_start log) (probing.helpers words log) (round_start log) (gossip_at log)) in
    let asked = ap (λ h. option_map (λ r. round_with r (Asked h)) (round log)) (helpers-is words log)
    ∙ asked-round (probe log) (since_start log) (probing.helpers words log) in
    λ i. record {
      events = event_count log;
      moment = moment log;
      score = score log;
      timers = timers i;
      order = order_of log;
      number = number log;
      round = asked i;
      gossip = gossip_at log;
      relays = relays log;
      membership = group_state_of (group_log log);
    }

-- a round ends
abbrev with_marks : ℕ → List ℤ → ScoreValue
with_marks max past = record { value = score_of max past; max = max }

end-mark : (r : Option RoundValue) (max : ℕ) (past : List ℤ) → marked_end r (with_marks max past) ≡ with_marks max (timing.mark_of_fired RoundEnd r past)
end-mark None max past = refl
end-mark (Some r) max past = elim (cases_Bool r.acked) [ inl t ↦ rw t refl | inr f ↦ rw f refl ]

end-state : (d : ℕ) (words : List ℕ) (log : Log) → state.end_round (state_of log) ≡ state_of (Fired (record { deadline = d; id = RoundEnd }) words ∷ log)
end-state d words log =
    let silent = filter (is_silent log) (relays log) in
    let score = end-mark (round log) (max_in (group.config (group_log log))) (earned log) in
    let timers = start-set (nack_at log) (relay_at log) silent (relays log) (rows log) (moment log) (rest log) (ours log) (are log) in
    λ i. record {
      events = event_count log;
      moment = moment log;
      score = score i;
      timers = timers i;
      order = order_of log;
      number = number log;
      round = None;
      gossip = gossip_at log;
      relays = relays log;
      membership = group_state_of (group_log log);
    }

-- the timers of relays
neither : (a b : Bool) → not (a || b) ≡ (not a && not b)
neither true b = refl
neither false b = refl

nack-state : (d k : ℕ) (words : List ℕ) (log : Log) → state.nack_relay k (state_of log) ≡ state_of (Fired (record { deadline = d; id = RelayNack k }) words ∷ log)
nack-state d k words log =
    let timers = nacked-timers (rest log) (ours log) (are log) (nack_at log) (relay_at log) (rows log) k (is_silent log)
    (λ r. not ((r.number == k) || relay_has_nacked log r.number)) (relays log) (λ r. neither (r.number == k) (relay_has_nacked log r.number)) in
    λ i. record {
      events = event_count log;
      moment = moment log;
      score = score log;
      timers = timers i;
      order = order_of log;
      number = number log;
      round = round log;
      gossip = gossip_at log;
      relays = relays log;
      membership = group_state_of (group_log log);
    }

close-state : (d k : ℕ) (words : List ℕ) (log : Log) → state.close_relay k (state_of log) ≡ state_of (Fired (record { deadline = d; id = RelayEnd k }) words ∷ log)
close-state d k words log =
    let open_then = sym (relays-closed d k words log) in
    let timers = closed-timers (rest log) (ours log) (are log) (nack_at log) (relay_at log) (rows log) k (is_silent log) (relays log)
    ∙ ap (λ rs. turned (ours log) (nacks (nack_at log) (filter (is_silent log) rs)) (ends (relay_at log) rs) (runs (rows log))) open_then in
    λ i. record {
      events = event_count log;
      moment = moment log;
      score = score log;
      timers = timers i;
      order = order_of log;
      number = number log;
      round = round log;
      gossip = gossip_at log;
      relays = open_then i;
      membership = group_state_of (group_log log);
    }

-- news is gossiped
no_gossip : (end direct : ℕ) (p : Option Probe) (past : List RoundFact) (start : Option ℕ)
    → without_timer Gossip (timing.probe_timers end direct p past ++ timing.start_timers start) ≡ timing.probe_timers end direct p past ++ timing.start_timers start
no_gossip end direct None past None = refl
no_gossip end direct None past (Some d) = refl
no_gossip end direct (Some p) past start = step (timing.is_waiting p past) start
  where
    step : (waiting : Bool) (start : Option ℕ) → without_timer Gossip (round_parts end direct waiting ++ timing.start_timers start) ≡ round_parts end direct waiting ++ timing.start_timers start
    step true None = refl
    step true (Some d) = refl
    step false None = refl
    step false (Some d) = refl

gossip-state : (d : ℕ) (words : List ℕ) (log : Log) → state.gossip_fired (state_of log) ≡ state_of (Fired (record { deadline = d; id = Gossip }) words ∷ log)
gossip-state d words log =
    let silent = filter (is_silent log) (relays log) in
    let timers = gossip-fired (nack_at log) (relay_at log) silent (relays log) (rows log) (gossip_at log) (round_timers log)
    (no_gossip (end_at log) (direct_at log) (probe log) (since_start log) (round_start log)) in
    λ i. record {
      events = event_count log;
      moment = moment log;
      score = score log;
      timers = timers i;
      order = order_of log;
      number = number log;
      round = round log;
      gossip = None;
      relays = relays log;
      membership = group_state_of (group_log log);
    }

-- an event ends
kept : (tells : Bool) (delay : Option ℕ) (now : ℕ) (gossip : Option ℕ) → gossip_by tells delay now gossip ≡ kept_or gossip (gossip_by tells delay now None)
kept tells delay now None = refl
kept tells delay now (Some d) = refl

pub ended-state : (log : Log) → state.end_event (state_of log) ≡ state_of (Ended ∷ log)
unfolding state.end_event
ended-state log =
    let silent = filter (is_silent log) (relays log) in
    let delay = gossip_delay (group.config (group_log log)) in
    let next = gossip_by (has_to_tell log) delay (moment log) None in
    let is = kept (has_to_tell log) delay (moment log) (gossip_at log) in
    let timers = ap (λ o. state.with_gossip (gossip_at log) o (pending log)) is
    ∙ gossip-set (nack_at log) (relay_at log) silent (relays log) (rows log) (gossip_at log) next (round_timers log)
    (no_gossip (end_at log) (direct_at log) (probe log) (since_start log) (round_start log))
    ∙ ap (λ o. turned (round_timers log ++ gossip_timers o) (nack_timers log) (relay_timers log) (runs (rows log))) (sym is) in
    λ i. record {
      events = event_count log;
      moment = moment log;
      score = score log;
      timers = timers i;
      order = order_of log;
      number = number log;
      round = round log;
      gossip = gossip_at (Ended ∷ log);
      relays = relays log;
      membership = group_state_of (group_log log);
    }

-- this member leaves: the probe that runs is dropped
dropped : (nack_at end_at : ℕ → ℕ) (silent relays : List Relay) (rows : Waiting) (end direct later : ℕ) (p : Option Probe) (past : List RoundFact) (start gossip : Option ℕ)
    → state.without_probe (is_some (round_at past p)) later
    (turned ((timing.probe_timers end direct p past ++ timing.start_timers start) ++ gossip_timers gossip) (nacks nack_at silent) (ends end_at relays) (runs rows))
    ≡ turned (timing.start_timers (timing.start_after_leave later p start) ++ gossip_timers gossip) (nacks nack_at silent) (ends end_at relays) (runs rows)
dropped nack_at end_at silent relays rows end direct later None past start gossip = refl
dropped nack_at end_at silent relays rows end direct later (Some p) past start gossip =
    start-set nack_at end_at silent relays rows later (gossip_timers gossip) ((timing.probe_timers end direct (Some p) past ++ timing.start_timers start) ++ gossip_timers gossip)
    (are_round end direct (Some p) past start gossip)

pub depart-state : (log : Log) → state.depart (state_of log) ≡ state_of (OfGroup group.Departed ∷ log)
unfolding state.depart
depart-state log =
    let g = group_log log in
    let silent = filter (is_silent log) (relays log) in
    let start = timing.start_after_leave (timing.interval_later log) (probe log) (round_start log) in
    let timers = dropped (nack_at log) (relay_at log) silent (relays log) (rows log) (end_at log) (direct_at log) (timing.interval_later log) (probe log) (since_start log) (round_start log) (gossip_at log)
    ∙ (λ i. turned (timing.start_timers start ++ rest log) (nack_timers log) (relay_timers log) (runs (record { rows = suspicions-left g i; gone = gone-left g i }))) in
    let member = leave-state g in
    λ i. record {
      events = event_count log;
      moment = moment log;
      score = score log;
      timers = timers i;
      order = order-left log i;
      number = number log;
      round = None;
      gossip = gossip_at log;
      relays = relays log;
      membership = member i;
    }

fired : (d : ℕ) (id : TimerId) (words : List ℕ) (log : Log) → fire_id id words (state_of log) ≡ state_of (to_log.fire (record { deadline = d; id = id }) words log)
fired d RoundEnd words log = end-state d words log
fired d (Suspicion m) words log = refl
fired d Direct words log = direct-state d words log
fired d (RelayNack k) words log = nack-state d k words log
fired d (RelayEnd k) words log = close-state d k words log
fired d RoundStart words log = start-state d words log
fired d (Forget m) words log = forget-state m (Fired (record { deadline = d; id = Forget m }) words ∷ log)
fired d Gossip words log = gossip-state d words log

pub fire-state : (timer : Timer) (words : List ℕ) (log : Log) → fire_state timer words (state_of log) ≡ state_of (to_log.fire timer words log)
unfolding fire_state
fire-state timer words log = fired timer.deadline timer.id words log

-- an Ack comes
or_first : (a c : Bool) → (a || (not a && c)) ≡ (c || a)
or_first true true = refl
or_first true false = refl
or_first false true = refl
or_first false false = refl

acked-round : (p : Option Probe) (past : List RoundFact) (k : ℕ) (sender : List ℕ) → option_map (λ r. round_with r (Acked k sender)) (round_at past p) ≡ round_at (Acked k sender ∷ past) p
acked-round None past k sender = refl
acked-round (Some p) past k sender =
    let a = is_acked p.number p.target past in
    let c = ack_counts p.number p.target (asked_in past) k sender in
    ap (λ b. Some (record (round_of p.number p.target past) { acked = b })) (or_first a c)

ack-mark : (first : Bool) (max : ℕ) (past : List ℤ) → marked_ack first (with_marks max past) ≡ with_marks max (mark_of_ack first past)
ack-mark true max past = refl
ack-mark false max past = refl

pub ack-state : (k : ℕ) (sender : List ℕ) (log : Log) → hear_ack k sender (state_of log) ≡ state_of (AckHeard k sender ∷ log)
unfolding hear_ack
ack-state k sender log =
    let silent = filter (is_silent log) (relays log) in
    let first = is_first k sender (round log) in
    let A = (timing.probe_timers (end_at log) (direct_at log) (probe log) (Acked k sender ∷ since_start log) ++ timing.start_timers (round_start log)) ++ rest log in
    let score = ack-mark first (max_in (group.config (group_log log))) (earned log) in
    let open_then = sym (relays-acked k sender log) in
    let direct : state.without_direct first (pending log) ≡ turned A (nack_timers log) (relay_timers log) (runs (rows log)) =
    first-direct (nack_at log) (relay_at log) silent (relays log) (rows log) first (ours log)
    ∙ ap (λ ts. turned ts (nack_timers log) (relay_timers log) (runs (rows log)))
    (acked-timers (end_at log) (direct_at log) (probe log) (since_start log) k sender (round_start log) (gossip_at log)) in
    let timers = ap (state.without_ended (is_some (ended_asker k sender (relays log))) k) direct
    ∙ ended-timers (rest log) A (are_round (end_at log) (direct_at log) (probe log) (Acked k sender ∷ since_start log) (round_start log) (gossip_at log)) (nack_at log) (relay_at log) (rows log) k sender (is_silent log) (relays log)
    (relays_apart log)
    ∙ ap (λ rs. turned A (nacks (nack_at log) (filter (is_silent log) rs)) (ends (relay_at log) rs) (runs (rows log))) open_then in
    λ i. record {
      events = event_count log;
      moment = moment log;
      score = score i;
      timers = timers i;
      order = order_of log;
      number = number log;
      round = acked-round (probe log) (since_start log) k sender i;
      gossip = gossip_at log;
      relays = open_then i;
      membership = group_state_of (group_log log);
    }

-- a Nack comes
nacked-round : (p : Option Probe) (past : List RoundFact) (k : ℕ) (sender : List ℕ) → option_map (λ r. round_with r (Nacked k sender)) (round_at past p) ≡ round_at (Nacked k sender ∷ past) p
nacked-round None past k sender = refl
nacked-round (Some p) past k sender = ap Some (nacked_after p.number p.target past k sender)

nack-timers : (e d : ℕ) (p : Option Probe) (past : List RoundFact) (k : ℕ) (sender : List ℕ) (start gossip : Option ℕ)
    → (timing.probe_timers e d p past ++ timing.start_timers start) ++ gossip_timers gossip
    ≡ (timing.probe_timers e d p (Nacked k sender ∷ past) ++ timing.start_timers start) ++ gossip_timers gossip
nack-timers e d None past k sender start gossip = refl
nack-timers e d (Some p) past k sender start gossip = refl

pub nack-heard : (k : ℕ) (sender : List ℕ) (log : Log) → hear_nack k sender (state_of log) ≡ state_of (NackHeard k sender ∷ log)
unfolding hear_nack
nack-heard k sender log =
    let timers = ap (λ ts. turned ts (nack_timers log) (relay_timers log) (runs (rows log))) (nack-timers (end_at log) (direct_at log) (probe log) (since_start log) k sender (round_start log) (gossip_at log)) in
    λ i. record {
      events = event_count log;
      moment = moment log;
      score = score log;
      timers = timers i;
      order = order_of log;
      number = number log;
      round = nacked-round (probe log) (since_start log) k sender i;
      gossip = gossip_at log;
      relays = relays log;
      membership = group_state_of (group_log log);
    }

-- a relay is opened
pub relayed-state : (target : List ℕ) (asker : Asker) (log : Log) → open_relay target asker (state_of log) ≡ state_of (Relayed target asker ∷ log)
unfolding open_relay
relayed-state target asker log =
    let open_then = sym (relays-opened target asker log) in
    let timers = opened-timers (rest log) (ours log) (are log) (nack_at log) (relay_at log) (rows log) (number log) (state.nack_later (state_of log)) (state.relay_later (state_of log)) (is_silent log) (relays log)
    ∙ (λ i. turned (ours log) (nacks-opened target asker log i) (ends-opened target asker log i) (runs (rows log))) in
    λ i. record {
      events = event_count log;
      moment = moment log;
      score = score log;
      timers = timers i;
      order = order_of log;
      number = next_number (number log);
      round = round log;
      gossip = gossip_at log;
      relays = open_then i;
      membership = group_state_of (group_log log);
    }
