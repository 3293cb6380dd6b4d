-- After a list of events that begins with an opening, a timer is always set: the next round's start, or the end of the
-- round whose probe runs.
use Rattle.std.proofs.Common.{◌≡◌, ℕ, Bool, true, ◌||◌, List, [], ◌∷◌, ◌++◌, reverse, Option, Some, None, refl, ◌∙◌, ap, append_assoc}
use Rattle.std.specs.Prelude.{is_some}
use Rattle.std.proofs.lemmas.List.{reverse-append}
use Rattle.lg_timers.specs.declared.timer.Timer.{Timer}
use Rattle.lg_timers.specs.declared.timer.TimerId.{TimerId}
use Rattle.lg_timers.specs.declared.timer.TimerId.TheVariants.{RoundEnd, Suspicion, Direct, RelayNack, RelayEnd, RoundStart, Forget, Gossip}
use Rattle.lg_timers.specs.Meaning.Timers.{in_turn}
use Rattle.lg_timers.proofs.TurnLaws.{least-with_timer}
use Rattle.lg_probe.specs.Meaning.Round.{RoundFact}
use Rattle.lg_timing.specs.declared.config.Config.{Config}
use Rattle.lg_membership.specs.Meaning.Log as group
use Rattle.lg_detector.specs.declared.event.Event.{Event}
use Rattle.lg_detector.specs.declared.event.Event.TheVariants.{Open, Tick, Heard, Ask, Health, Pull, Leave}
use Rattle.lg_detector.specs.Meaning.Log.{Log, Came, Fired, AckHeard, NackHeard, Relayed, Ended, OfGroup, group_log}
use Rattle.lg_detector.specs.Meaning.Probing.{Probe, chosen, number, new_probe, probe, probe_by, since_start}
use Rattle.lg_detector.specs.Meaning.Timing.{gossip_at, gossip_timers, round_timers, start_timer, end_timer, start_timers, direct_timers, probe_timers, start_unless, start_after_leave, start_by, round_start, end_at, direct_at, interval_later}
use Rattle.lg_detector.specs.Meaning.Timing.{nack_timers, relay_timers, suspicion_timers, forget_timers, deadline_in, due}
use Rattle.lg_detector.specs.Meaning.Tick.{expire}
use Rattle.lg_detector.specs.Meaning.Step.{step, log_of, is_open_event, begins_open, deadline_after}
use Rattle.lg_detector.proofs.Untouched.{IsUntouched, untouched-open, untouched-hear, untouched-fire}

-- Whether the member was opened, and what that is read off.
abbrev pub configuration : Log → Option Config
configuration log = group.config (group_log log)

abbrev pub was_opened : Log → Bool
was_opened log = is_some (configuration log)

pub configuration_untouched : IsUntouched configuration
configuration_untouched = record {
  said = λ now origin c log. refl;
  sent = λ taken log. refl;
  acked = λ k sender log. refl;
  nacked = λ k sender log. refl;
  relayed = λ target asker log. refl;
}

pub configuration-expire : (o : Option Timer) (words : List ℕ) (log : Log) → configuration (expire o words log) ≡ configuration log
configuration-expire None words log = refl
configuration-expire (Some timer) words log = untouched-fire configuration configuration_untouched (λ m log. refl) timer words log

-- After an opening it was, and no event changes that.
pub opened-first : (e : Event) (log : Log) → is_open_event e ≡ true → was_opened (step e log) ≡ true
opened-first (Open now opening) log opens = ap is_some (untouched-open configuration configuration_untouched now opening log)
opened-first (Heard now source packet) log opens = absurd cc
opened-first (Tick now words) log opens = absurd cc
opened-first (Ask now name) log opens = absurd cc
opened-first (Health now) log opens = absurd cc
opened-first (Pull now peer) log opens = absurd cc
opened-first (Leave now words) log opens = absurd cc

opened-next : (e : Event) (log : Log) → was_opened log ≡ true → was_opened (step e log) ≡ true
opened-next (Open now opening) log was = opened-first (Open now opening) log refl
opened-next (Heard now source packet) log was = ap is_some (untouched-hear configuration configuration_untouched (λ m log. refl) now source packet log) ∙ was
opened-next (Tick now words) log was = ap is_some (configuration-expire (due (Came now ∷ log)) words (Came now ∷ log)) ∙ was
opened-next (Ask now name) log was = was
opened-next (Health now) log was = was
opened-next (Pull now peer) log was = was
opened-next (Leave now words) log was = was

opened-past : (past : List Event) (x : Event) → is_open_event x ≡ true → was_opened (log_of (past ++ x ∷ [])) ≡ true
opened-past [] x opens = opened-first x [] opens
opened-past (e ∷ past) x opens = opened-next e (log_of (past ++ x ∷ [])) (opened-past past x opens)

-- Whether a probe runs, or the next round's start is set.
abbrev pub is_timed : Log → Bool
is_timed log = is_some (probe log) || is_some (round_start log)

timed-start : (k later : ℕ) (o : Option (List ℕ)) → (is_some (new_probe k o) || is_some (start_unless later o)) ≡ true
timed-start k later None = refl
timed-start k later (Some target) = refl

timed-by : (id : TimerId) (words : List ℕ) (log : Log) → is_timed log ≡ true → (is_some (probe_by id words log (probe log)) || is_some (start_by id words log (round_start log))) ≡ true
timed-by RoundEnd words log timed = refl
timed-by (Suspicion m) words log timed = timed
timed-by Direct words log timed = timed
timed-by (RelayNack k) words log timed = timed
timed-by (RelayEnd k) words log timed = timed
timed-by (Forget m) words log timed = timed
timed-by Gossip words log timed = timed
timed-by RoundStart words log timed = timed-start (number log) (interval_later log) (chosen words log)

pub timed-leave : (later : ℕ) (p : Option Probe) (start : Option ℕ) → is_some (start_after_leave later p start) ≡ (is_some p || is_some start)
timed-leave later None start = refl
timed-leave later (Some p) start = refl

pub timed : (log : Log) → was_opened log ≡ true → is_timed log ≡ true
timed [] opened = absurd cc
timed (Came now ∷ log) opened = timed log opened
timed (Fired timer words ∷ log) opened = timed-by timer.id words log (timed log opened)
timed (AckHeard k sender ∷ log) opened = timed log opened
timed (NackHeard k sender ∷ log) opened = timed log opened
timed (Relayed target asker ∷ log) opened = timed log opened
timed (Ended ∷ log) opened = timed log opened
timed (OfGroup (group.Opened opening) ∷ log) opened = refl
timed (OfGroup (group.Said now origin c) ∷ log) opened = timed log opened
timed (OfGroup (group.Sent taken) ∷ log) opened = timed log opened
timed (OfGroup (group.Forgot m) ∷ log) opened = timed log opened
timed (OfGroup group.Departed ∷ log) opened = timed-leave (interval_later log) (probe log) (round_start log) ∙ timed log opened

-- So there is a least deadline.
some_least : (end direct : ℕ) (p : Option Probe) (past : List RoundFact) (start : Option ℕ) (rest : List Timer) → (is_some p || is_some start) ≡ true
    → is_some (deadline_in (in_turn ((probe_timers end direct p past ++ start_timers start) ++ rest))) ≡ true
unfolding in_turn
some_least end direct None past None rest set = absurd cc
some_least end direct None past (Some d) rest set = rw (least-with_timer (start_timer d) (in_turn rest)) refl
some_least end direct (Some p) past start rest set =
    rw (least-with_timer (end_timer end) (in_turn ((direct_timers direct p past ++ start_timers start) ++ rest))) refl

pub deadline_is_set : (x : Event) (f : List Event) → is_open_event x ≡ true → is_some (deadline_after (x ∷ f)) ≡ true
deadline_is_set x f opens =
    let log : Log = log_of (reverse (x ∷ f)) in
    let back : reverse (x ∷ f) ≡ reverse f ++ x ∷ [] = reverse-append (x ∷ []) f in
    let opened : was_opened log ≡ true = ap (λ (past : List Event). was_opened (log_of past)) back ∙ opened-past (reverse f) x opens in
    let others = nack_timers log ++ (relay_timers log ++ (suspicion_timers log ++ forget_timers log)) in
    let gossip = gossip_timers (gossip_at log) in
    ap (λ ts. is_some (deadline_in (in_turn ts))) (append_assoc (round_timers log) gossip others)
    ∙ some_least (end_at log) (direct_at log) (probe log) (since_start log) (round_start log) (gossip ++ others) (timed log opened)

pub deadline_is_begun : (f : List Event) → begins_open f ≡ true → is_some (deadline_after f) ≡ true
deadline_is_begun [] opens = absurd cc
deadline_is_begun (x ∷ f) opens = deadline_is_set x f opens
