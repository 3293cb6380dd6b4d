-- The health score (Lifeguard's local health multiplier, LHM) and the timers that are set (Lifeguard, local health
-- aware probe; SWIM, section 3.1).
use Rattle.std.specs.Prelude.{ℕ, ◌+◌, ◌*◌, ◌/◌, ◌==◌, length, ℤ, pos, negsuc, Bool, true, false, ◌&&◌, not}
use Rattle.std.specs.Prelude.{List, [], ◌∷◌, ◌++◌, map, filter, Option}
use Rattle.std.specs.Prelude.{Some, None, option_map, if◌then◌else◌}
use Rattle.std.specs.List.{list_any}
use Rattle.lg_rules.specs.declared.own.OwnHeard.{OwnHeard}
use Rattle.lg_rules.specs.declared.own.OwnHeard.TheVariants.{Refuted}
use Rattle.lg_rules.specs.Meaning.Own.{own_hearing}
use Rattle.lg_rules.specs.declared.version.Version.{Version}
use Rattle.lg_rules.specs.declared.version.Version.TheVariants.{One, Two, Three}
use Rattle.lg_timing.specs.declared.config.Config.{Config}
use Rattle.lg_timing.specs.Meaning.Config.{version_of}
use Rattle.lg_timing.specs.Meaning.Score.{ScoreValue, score_of}
use Rattle.lg_suspicion.specs.Meaning.Accusers.{deadline_of}
use Rattle.lg_timers.specs.declared.timer.Timer.{Timer}
use Rattle.lg_timers.specs.declared.timer.TimerId.{TimerId}
use Rattle.lg_timers.specs.declared.timer.TimerId.TheVariants.{RoundEnd, Suspicion, Direct}
use Rattle.lg_timers.specs.declared.timer.TimerId.TheVariants.{RelayNack, RelayEnd, RoundStart, Forget, Gossip}
use Rattle.lg_timers.specs.Meaning.Timers.{in_turn, least_of, due_of}
use Rattle.lg_probe.specs.Meaning.Round.{RoundFact, RoundValue, Asked, is_acked, is_first_ack, mark_of}
use Rattle.lg_membership.specs.Meaning.Gossip.{news}
use Rattle.lg_membership.specs.Meaning.Log as group
use Rattle.lg_membership.specs.Meaning.Suspicions.{SuspectedValue, suspicions}
use Rattle.lg_detector.specs.Meaning.Forget.{Gone, gone}
use Rattle.lg_detector.specs.Meaning.Log.{Log, Fired, AckHeard, Ended, OfGroup, moment, group_log}
use Rattle.lg_detector.specs.Meaning.Probing.{Probe, is_round_start, chosen, others, probe, since_start, round}
use Rattle.lg_detector.specs.Meaning.Relaying.{relays, opened_at, relay_has_nacked}

-- The marks that were earned since the opening, the latest first. Each refuted suspicion of this member earns 1. The
-- first Ack that counts for a probe earns -1. The end of a round without such an Ack earns 1, or 2 if a helper that
-- was asked sent no Nack.
abbrev pub marks_of_hearing : OwnHeard → List ℤ → List ℤ
marks_of_hearing Refuted past = pos 1 ∷ past
marks_of_hearing _ past = past

abbrev pub mark_of_end : RoundValue → List ℤ → List ℤ
mark_of_end r past = if r.acked then past else mark_of false r.silent ∷ past

abbrev pub mark_of_fired : TimerId → Option RoundValue → List ℤ → List ℤ
mark_of_fired RoundEnd (Some r) past = mark_of_end r past
mark_of_fired _ r past = past

abbrev pub is_first : ℕ → List ℕ → Option RoundValue → Bool
is_first k sender None = false
is_first k sender (Some r) = is_first_ack r k sender

abbrev pub mark_of_ack : Bool → List ℤ → List ℤ
mark_of_ack first past = if first then negsuc 0 ∷ past else past

abbrev pub earned : Log → List ℤ
earned [] = []
earned (OfGroup (group.Opened opening) ∷ log) = []
earned (OfGroup (group.Said now origin c) ∷ log) =
    marks_of_hearing (own_hearing (group.own (group_log log)) c) (earned log)
earned (Fired timer words ∷ log) = mark_of_fired timer.id (round log) (earned log)
earned (AckHeard k sender ∷ log) = mark_of_ack (is_first k sender (round log)) (earned log)
earned (_ ∷ log) = earned log

-- the score: their sum, held between 0 and the greatest score at every mark
abbrev pub max_in : Option Config → ℕ
max_in None = 0
max_in (Some opening) = opening.max_score

abbrev pub score : Log → ScoreValue
score log =
    let max = max_in (group.config (group_log log)) in
    record { value = score_of max (earned log); max = max }

-- the interval (protocol period) and the timeout, scaled by the score
abbrev pub scaled_interval : Option Config → ScoreValue → ℕ
scaled_interval None s = 0
scaled_interval (Some opening) s = opening.interval_ms * (s.value + 1)

abbrev pub scaled_timeout : Option Config → ScoreValue → ℕ
scaled_timeout None s = 0
scaled_timeout (Some opening) s = opening.timeout_ms * (s.value + 1)

-- the moment one scaled interval, or one scaled timeout, after a log
abbrev pub interval_later : Log → ℕ
interval_later log = moment log + scaled_interval (group.config (group_log log)) (score log)

abbrev pub timeout_later : Log → ℕ
timeout_later log = moment log + scaled_timeout (group.config (group_log log)) (score log)

-- When the round that started last ends, and when its helpers are asked, by the score at its start.
abbrev pub end_at : Log → ℕ
end_at [] = 0
end_at (Fired timer words ∷ log) = if is_round_start timer.id then interval_later log else end_at log
end_at (_ ∷ log) = end_at log

abbrev pub direct_at : Log → ℕ
direct_at [] = 0
direct_at (Fired timer words ∷ log) = if is_round_start timer.id then timeout_later log else direct_at log
direct_at (_ ∷ log) = direct_at log

-- When the next round starts: at the moment of the opening, at the moment at which a round ended, one scaled interval
-- after a start that chose nobody, or one scaled interval after this member left while a probe ran. While a probe runs,
-- none is set.
abbrev pub start_unless : ℕ → Option (List ℕ) → Option ℕ
start_unless later None = Some later
start_unless later (Some target) = None

abbrev pub start_by : TimerId → List ℕ → Log → Option ℕ → Option ℕ
start_by RoundStart words log before = start_unless (interval_later log) (chosen words log)
start_by RoundEnd words log before = Some (moment log)
start_by _ words log before = before

abbrev pub start_after_leave : ℕ → Option Probe → Option ℕ → Option ℕ
start_after_leave later None before = before
start_after_leave later (Some p) before = Some later

abbrev pub round_start : Log → Option ℕ
round_start [] = None
round_start (OfGroup (group.Opened opening) ∷ log) = Some (moment log)
round_start (OfGroup group.Departed ∷ log) = start_after_leave (interval_later log) (probe log) (round_start log)
round_start (Fired timer words ∷ log) = start_by timer.id words log (round_start log)
round_start (_ ∷ log) = round_start log

-- The timers of the round. Its helpers are still to be asked until an Ack has counted or they were asked.
abbrev pub start_timer : ℕ → Timer
start_timer deadline = record { deadline = deadline; id = RoundStart }

abbrev pub end_timer : ℕ → Timer
end_timer deadline = record { deadline = deadline; id = RoundEnd }

abbrev pub direct_timer : ℕ → Timer
direct_timer deadline = record { deadline = deadline; id = Direct }

abbrev pub start_timers : Option ℕ → List Timer
start_timers None = []
start_timers (Some deadline) = start_timer deadline ∷ []

abbrev pub is_asking : RoundFact → Bool
is_asking (Asked names) = true
is_asking _ = false

abbrev pub is_waiting : Probe → List RoundFact → Bool
is_waiting p past = not (is_acked p.number p.target past) && not (list_any is_asking past)

abbrev pub direct_timers : ℕ → Probe → List RoundFact → List Timer
direct_timers deadline p past = if is_waiting p past then direct_timer deadline ∷ [] else []

abbrev pub probe_timers : ℕ → ℕ → Option Probe → List RoundFact → List Timer
probe_timers end direct None past = []
probe_timers end direct (Some p) past = end_timer end ∷ direct_timers direct p past

abbrev pub round_timers : Log → List Timer
round_timers log =
    probe_timers (end_at log) (direct_at log) (probe log) (since_start log) ++ start_timers (round_start log)

-- The timers of the relays, which the score doesn't scale: when the Nack of each is sent, unless it was, and when it
-- is closed.
abbrev pub nack_time : Option Config → ℕ
nack_time None = 0
nack_time (Some opening) = opening.timeout_ms * opening.nack_thousandths / 1000

abbrev pub relay_time : Option Config → ℕ
relay_time None = 0
relay_time (Some opening) = opening.interval_ms

abbrev pub nack_timer : ℕ → ℕ → Timer
nack_timer deadline k = record { deadline = deadline; id = RelayNack k }

abbrev pub relay_timer : ℕ → ℕ → Timer
relay_timer deadline k = record { deadline = deadline; id = RelayEnd k }

abbrev pub nack_timers : Log → List Timer
nack_timers log =
    let later = nack_time (group.config (group_log log)) in
    let silent = filter (λ r. not (relay_has_nacked log r.number)) (relays log) in
    map (λ r. nack_timer (opened_at log r.number + later) r.number) silent

abbrev pub relay_timers : Log → List Timer
relay_timers log =
    let later = relay_time (group.config (group_log log)) in
    map (λ r. relay_timer (opened_at log r.number + later) r.number) (relays log)

-- When news is gossiped next. A gossip is set at the end of an event, unless one is: if a claim of the queue may still
-- be sent, and some other member isn't gone. It fires `gossip_ms` later, which the score doesn't scale. A member whose
-- `wire` isn't 3 or whose `gossip_ms` is 0 gossips nothing by packets of their own (this project's choice).
abbrev pub gossip_delay_of : Version → ℕ → Option ℕ
gossip_delay_of One delay = None
gossip_delay_of Two delay = None
gossip_delay_of Three delay = if delay == 0 then None else Some delay

abbrev pub gossip_delay : Option Config → Option ℕ
gossip_delay None = None
gossip_delay (Some opening) = gossip_delay_of (version_of opening) opening.gossip_ms

abbrev pub is_gossip : TimerId → Bool
is_gossip Gossip = true
is_gossip _ = false

abbrev pub has_to_tell : Log → Bool
has_to_tell log = news (group_log log) && not (length (others log) == 0)

abbrev pub gossip_by : Bool → Option ℕ → ℕ → Option ℕ → Option ℕ
gossip_by tells delay now (Some deadline) = Some deadline
gossip_by tells None now None = None
gossip_by tells (Some delay) now None = if tells then Some (now + delay) else None

abbrev pub gossip_at : Log → Option ℕ
gossip_at [] = None
gossip_at (OfGroup (group.Opened opening) ∷ log) = None
gossip_at (Fired timer words ∷ log) = if is_gossip timer.id then None else gossip_at log
gossip_at (Ended ∷ log) =
    gossip_by (has_to_tell log) (gossip_delay (group.config (group_log log))) (moment log) (gossip_at log)
gossip_at (_ ∷ log) = gossip_at log

abbrev pub gossip_timer : ℕ → Timer
gossip_timer deadline = record { deadline = deadline; id = Gossip }

abbrev pub gossip_timers : Option ℕ → List Timer
gossip_timers None = []
gossip_timers (Some deadline) = gossip_timer deadline ∷ []

-- The timers that are set, in the order in which they fire: those of the round, that of the next gossip, those of the
-- relays, the deadline of each suspicion, and when each member that is gone is forgotten. Each accuser that counts
-- brings the deadline of a suspicion nearer, as lg_suspicion says.
abbrev pub suspicion_timer : SuspectedValue → Timer
suspicion_timer r = record { deadline = deadline_of r.suspicion; id = Suspicion r.name }

abbrev pub suspicion_timers : Log → List Timer
suspicion_timers log = map suspicion_timer (suspicions (group_log log))

abbrev pub forget_timer : Gone → Timer
forget_timer r = record { deadline = r.deadline; id = Forget r.name }

abbrev pub forget_timers : Log → List Timer
forget_timers log = map forget_timer (gone (group_log log))

abbrev pub pending : Log → List Timer
pending log =
    in_turn (
    (round_timers log ++ gossip_timers (gossip_at log))
    ++ (nack_timers log ++ (relay_timers log ++ (suspicion_timers log ++ forget_timers log))))

-- the first of the timers that are due
abbrev pub due : Log → Option Timer
due log = due_of (moment log) (pending log)

-- the least deadline of some timers, if one is set; 0 stands for none
abbrev pub deadline_in : List Timer → Option ℕ
deadline_in timers = option_map (λ t. t.deadline) (least_of timers)

abbrev pub or_zero : Option ℕ → ℕ
or_zero None = 0
or_zero (Some n) = n
