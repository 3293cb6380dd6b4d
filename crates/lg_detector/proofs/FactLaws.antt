-- Each fact of the group changes the state as its definitions do, and so does an event that comes. Those of probing are
-- in ProbeLaws.
use Rattle.std.proofs.Common.{◌≡◌, ◌≢◌, ℕ, ◌+◌, not, List, [], ◌∷◌, ◌++◌, filter, None, inl, inr, refl, sym, ◌∙◌, ap}
use Rattle.std.specs.Prelude.{ℤ}
use Rattle.lg_rules.specs.declared.claim.Claim.{Claim}
use Rattle.lg_rules.specs.declared.own.OwnHeard.{OwnHeard}
use Rattle.lg_rules.specs.declared.own.OwnHeard.TheVariants.{Refuted, Raised, Ousted, Ignored}
use Rattle.lg_rules.specs.Meaning.Own.{own_hearing}
use Rattle.lg_rules.proofs.OwnLaws.{own_hearing-other}
use Rattle.lg_rules.proofs.KeyOrder.{names_order, cases_key, same_key, other_key}
use Rattle.lg_timing.specs.declared.config.Config.{Config}
use Rattle.lg_timing.specs.Meaning.Score.{ScoreValue, score_of}
use Rattle.lg_timers.specs.declared.timer.Timer.{Timer}
use Rattle.lg_timers.specs.declared.timer.TimerId.TheVariants.{Suspicion, Forget}
use Rattle.lg_timers.specs.Meaning.Timers.{without_timer}
use Rattle.lg_timers.proofs.Pending.{NoSuspicion}
use Rattle.lg_membership.specs.declared.applied.Applied.{Applied}
use Rattle.lg_membership.specs.declared.origin.Origin.{Origin}
use Rattle.lg_membership.specs.Meaning.Log as group
use Rattle.lg_membership.specs.Meaning.Applied.{is_refuted}
use Rattle.lg_membership.specs.Meaning.Suspicions.{SuspectedValue, suspicions}
use Rattle.lg_membership.specs.Support.Changes.{Ending, suspicions_after}
use Rattle.lg_membership.specs.Support.State as known
use Rattle.lg_membership.specs.Support.State.{GroupState, group_state_of}
use Rattle.lg_membership.proofs.FactLaws.{open-state as member-open, apply-state as member-apply, send-state as member-send, forget-state as member-forget, own_name}
use Rattle.lg_membership.proofs.Reaching.{apply-own, apply-other}
use Rattle.lg_membership.proofs.SuspicionLaws.{rises-suspicions, suspicions-opened, suspicions-forgot}
use Rattle.lg_membership.proofs.Hearings.{change_about}
use Rattle.lg_membership.proofs.LiveOthers.{live-opened}
use Rattle.lg_detector.specs.Meaning.Forget.{Gone, gone}
use Rattle.lg_detector.specs.Meaning.Log.{Log, Came, OfGroup, event_count, moment, group_log}
use Rattle.lg_detector.specs.Meaning.Probing.{number, round, probe, since_start}
use Rattle.lg_detector.specs.Meaning.Relaying.{relays, relay_has_nacked, opened_at}
use Rattle.lg_detector.specs.Meaning.Timing.{marks_of_hearing, earned, max_in, score, round_start, round_timers}
use Rattle.lg_detector.specs.Meaning.Timing.{nack_timers, relay_timers, pending, nack_time, relay_time, end_at}
use Rattle.lg_detector.specs.Meaning.Timing.{direct_at, gossip_at, gossip_timers, start_timer}
use Rattle.lg_detector.specs.Meaning.Apply as log_of_it
use Rattle.lg_detector.specs.Support.State.{state_of, order_of, come_state, begin, marked_if, follow, apply_state, forget_name}
use Rattle.lg_detector.specs.Support.State.{send_taken}
use Rattle.lg_detector.proofs.Fading.{until-own, until-other, faded}
use Rattle.lg_detector.proofs.ForgetTimers.{NoForget}
use Rattle.lg_detector.proofs.GoneLaws.{gone-opened, gone-own, gone-forgot}
use Rattle.lg_detector.proofs.OrderLaws.{order-said, order-forgot}
use Rattle.lg_detector.proofs.TimerLaws.{turned, runs, pending-after, forget-less, pending-alone, are_round, no_suspicion-nacks, no_suspicion-ends, no_forget-nacks, no_forget-ends}

pub come-state : (now : ℕ) (log : Log) → come_state now (state_of log) ≡ state_of (Came now ∷ log)
come-state now log = refl

pub begin-state : (opening : Config) (log : Log) → begin opening (state_of log) ≡ state_of (OfGroup (group.Opened opening) ∷ log)
begin-state opening log = λ i. record {
  events = event_count log;
  moment = moment log;
  score = record { value = 0; max = opening.max_score };
  timers = (pending-alone (moment log) ∙ sym (λ j. turned (start_timer (moment log) ∷ []) [] [] (runs (record { rows = suspicions-opened opening (group_log log) j; gone = gone-opened opening (group_log log) j })))) i;
  order = record { names = sym (live-opened opening (group_log log)) i; chosen = [] };
  number = opening.first;
  round = None;
  gossip = None;
  relays = [];
  membership = member-open opening (group_log log) i;
}

-- The score, when a claim is said.
abbrev with_marks : ℕ → List ℤ → ScoreValue
with_marks max past = record { value = score_of max past; max = max }

marked-by : (max : ℕ) (hearing : OwnHeard) (past : List ℤ) → marked_if (is_refuted hearing) (with_marks max past) ≡ with_marks max (marks_of_hearing hearing past)
marked-by max Refuted past = refl
marked-by max Raised past = refl
marked-by max Ousted past = refl
marked-by max Ignored past = refl

applied-own : (now : ℕ) (c : Claim) (s : GroupState) → c.name ≡ s.own.name → known.applied now c s ≡ known.applied_own c s
unfolding known.applied
applied-own now c s same = rw (same_key names_order c.name s.own.name same) refl

applied-other : (now : ℕ) (c : Claim) (s : GroupState) → c.name ≢ s.own.name → known.applied now c s ≡ known.applied_other now c s
unfolding known.applied
applied-other now c s other = rw (other_key names_order c.name s.own.name other) refl

-- the timers of a log: those of the round with that of the next gossip, and all of them by its suspicions
abbrev ours : Log → List Timer
ours log = round_timers log ++ gossip_timers (gossip_at log)

abbrev parts : Log → List SuspectedValue → List Gone → List Timer
parts log rows gone = turned (ours log) (nack_timers log) (relay_timers log) (runs (record { rows = rows; gone = gone }))

rounds_apart : (log : Log) → NoSuspicion (ours log)
rounds_apart log = (are_round (end_at log) (direct_at log) (probe log) (since_start log) (round_start log) (gossip_at log)).apart

nacks_apart : (log : Log) → NoSuspicion (nack_timers log)
nacks_apart log =
    let later = nack_time (group.config (group_log log)) in
    no_suspicion-nacks (λ k. opened_at log k + later) (filter (λ r. not (relay_has_nacked log r.number)) (relays log))

ends_apart : (log : Log) → NoSuspicion (relay_timers log)
ends_apart log =
    let later = relay_time (group.config (group_log log)) in
    no_suspicion-ends (λ k. opened_at log k + later) (relays log)

-- nor does one of these forget a member
rounds_kept : (log : Log) → NoForget (ours log)
rounds_kept log = (are_round (end_at log) (direct_at log) (probe log) (since_start log) (round_start log) (gossip_at log)).unforgotten

nacks_kept : (log : Log) → NoForget (nack_timers log)
nacks_kept log =
    let later = nack_time (group.config (group_log log)) in
    no_forget-nacks (λ k. opened_at log k + later) (filter (λ r. not (relay_has_nacked log r.number)) (relays log))

ends_kept : (log : Log) → NoForget (relay_timers log)
ends_kept log =
    let later = relay_time (group.config (group_log log)) in
    no_forget-ends (λ k. opened_at log k + later) (relays log)

abbrev said : Origin → Claim → Log → Log
said origin c log = log_of_it.apply origin c log

own-said : (origin : Origin) (c : Claim) (log : Log) → c.name ≡ group.me (group_log log) → apply_state origin c (state_of log) ≡ state_of (said origin c log)
unfolding apply_state
own-said origin c log same =
    let g = group_log log in
    let max = max_in (group.config g) in
    let to_own = applied-own (moment log) c (group_state_of g) (same ∙ sym (own_name g)) in
    let member = member-apply (moment log) origin c g in
    let rows : suspicions g ≡ suspicions (group_log (said origin c log)) =
    sym (ap (λ (s : GroupState). s.suspicions) (apply-own (moment log) origin c (group_state_of g) (same ∙ sym (own_name g)))) ∙ ap (λ (s : GroupState). s.suspicions) member in
    let marks = ap (λ (a : Applied). marked_if a.refuted (score log)) to_own
    ∙ marked-by max (own_hearing (group.own g) c) (earned log) in
    let until = until-own (moment log) origin c g same in
    let times = (λ i. follow (Forget c.name) (until i) (follow (Suspicion c.name) (to_own i).deadline (pending log)))
    ∙ (λ i. parts log (rows i) (gone-own (moment log) origin c g same i)) in
    λ i. record {
      events = event_count log;
      moment = moment log;
      score = marks i;
      timers = times i;
      order = order-said origin c log i;
      number = number log;
      round = round log;
      gossip = gossip_at log;
      relays = relays log;
      membership = member i;
    }

other-said : (origin : Origin) (c : Claim) (log : Log) → c.name ≢ group.me (group_log log) → apply_state origin c (state_of log) ≡ state_of (said origin c log)
unfolding apply_state
other-said origin c log other =
    let g = group_log log in
    let s = group_state_of g in
    let apart = λ (same : c.name ≡ s.own.name). other (same ∙ own_name g) in
    let max = max_in (group.config g) in
    let to_other = applied-other (moment log) c s apart in
    let member = member-apply (moment log) origin c g in
    let change = known.change_in (moment log) c s in
    let rows : suspicions_after change (suspicions g) ≡ suspicions (group_log (said origin c log)) =
    sym (ap (λ (t : GroupState). t.suspicions) (apply-other (moment log) origin c s apart)) ∙ ap (λ (t : GroupState). t.suspicions) member in
    let marks = ap (λ (a : Applied). marked_if a.refuted (score log)) to_other
    ∙ ap (λ (h : OwnHeard). with_marks max (marks_of_hearing h (earned log))) (sym (own_hearing-other (group.own g) c apart)) in
    let until = until-other (moment log) origin c g (known.applied (moment log) c s).changed (ap (λ (a : Applied). a.changed) to_other) in
    let susp = ap (λ (a : Applied). follow (Suspicion c.name) a.deadline (pending log)) to_other
    ∙ pending-after (ours log) (nack_timers log) (relay_timers log) c.name change (suspicions g) (gone g) (rounds_apart log) (nacks_apart log) (ends_apart log) (change_about (moment log) c s) (rises-suspicions g) in
    let times = (λ i. follow (Forget c.name) (until i) (susp i))
    ∙ faded (moment log) origin c g (ours log) (nack_timers log) (relay_timers log) (suspicions_after change (suspicions g)) (rounds_kept log) (nacks_kept log) (ends_kept log) other
    ∙ ap (λ rs. parts log rs (gone (group_log (said origin c log)))) rows in
    λ i. record {
      events = event_count log;
      moment = moment log;
      score = marks i;
      timers = times i;
      order = order-said origin c log i;
      number = number log;
      round = round log;
      gossip = gossip_at log;
      relays = relays log;
      membership = member i;
    }

pub apply-state : (origin : Origin) (c : Claim) (log : Log) → apply_state origin c (state_of log) ≡ state_of (said origin c log)
apply-state origin c log = elim (cases_key names_order c.name (group.me (group_log log))) [
  | inl same ↦ own-said origin c log same
  | inr other ↦ other-said origin c log other
]

pub send-state : (taken : List Claim) (log : Log) → send_taken taken (state_of log) ≡ state_of (OfGroup (group.Sent taken) ∷ log)
send-state taken log =
    let g = group_log log in
    let member = member-send taken g in
    λ i. record {
      events = event_count log;
      moment = moment log;
      score = score log;
      timers = parts log (member i).suspicions (gone g);
      order = order_of log;
      number = number log;
      round = round log;
      gossip = gossip_at log;
      relays = relays log;
      membership = member i;
    }

-- A name is forgotten.
pub forget-state : (m : List ℕ) (log : Log) → forget_name m (state_of log) ≡ state_of (OfGroup (group.Forgot m) ∷ log)
unfolding forget_name
forget-state m log =
    let g = group_log log in
    let A = ours log in
    let B = nack_timers log in
    let C = relay_timers log in
    let times = ap (without_timer (Forget m)) (pending-after A B C m (Ending m) (suspicions g) (gone g) (rounds_apart log) (nacks_apart log) (ends_apart log) refl (rises-suspicions g))
    ∙ forget-less A B C (suspicions_after (Ending m) (suspicions g)) (rounds_kept log) (nacks_kept log) (ends_kept log) m (gone g)
    ∙ (λ i. parts log (suspicions-forgot m g i) (gone-forgot m g i)) in
    let member = member-forget m g in
    λ i. record {
      events = event_count log;
      moment = moment log;
      score = score log;
      timers = times i;
      order = order-forgot m log i;
      number = number log;
      round = round log;
      gossip = gossip_at log;
      relays = relays log;
      membership = member i;
    }
