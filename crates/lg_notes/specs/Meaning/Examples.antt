-- Worked entries of b, which watches c at 127.0.0.1:7103. The members a, d and e are at 7101, 7104 and 7105. Probe 7 of
-- c begins at 1020.
use Rattle.std.specs.Prelude.{◌≡◌, ℕ, true, false, List, [], ◌∷◌, ◌++◌, Option, Some, None, map, refl}
use Rattle.lg_rules.specs.declared.claim.Claim.{Claim}
use Rattle.lg_rules.specs.declared.claim.Status.{Status}
use Rattle.lg_rules.specs.declared.claim.Status.TheVariants.{Alive, Suspect, Failed, Left}
use Rattle.lg_rules.specs.declared.version.Version.TheVariants.{Three}
use Rattle.lg_timing.specs.Meaning.Tables.{ratio_of}
use Rattle.lg_timing.specs.Meaning.Timeouts.{timeout_of}
use Rattle.lg_packet.specs.declared.packet.Body.{Body}
use Rattle.lg_packet.specs.declared.packet.Body.TheVariants.{Ping, PingReq, Ack, Nack, Gossip}
use Rattle.lg_timers.specs.declared.timer.TimerId.{TimerId}
use Rattle.lg_timers.specs.declared.timer.TimerId.TheVariants.{RoundEnd, Suspicion, Direct, RoundStart}
use Rattle.lg_detector.specs.declared.event.Event.{Event}
use Rattle.lg_detector.specs.declared.event.Event.TheVariants.{Heard}
use Rattle.lg_detector.specs.declared.reply.Reply.{Reply}
use Rattle.lg_detector.specs.Meaning.Examples.{a, b, c, d, e, at, nothing, sent, ticks, timer_of}
use Rattle.lg_accounts.specs.declared.step.NoteStep.TheVariants.{Pinged, Unanswered, Nacked, Acked, RoundEnded, Scored}
use Rattle.lg_accounts.specs.declared.step.NoteStep.TheVariants.{Told, TimeOver, Changed, Suspected, Minute}
use Rattle.lg_notes.specs.declared.insights.Insight.{Insight}
use Rattle.lg_suspicion.specs.declared.standing.SuspicionStanding.{SuspicionStanding}
use Rattle.lg_notes.specs.declared.subject.NoteSubject.{NoteSubject}
use Rattle.lg_notes.specs.declared.watch.RunningProbe.{RunningProbe}
use Rattle.lg_notes.specs.declared.watch.Watch.{Watch}
use Rattle.lg_notes.specs.Meaning.About.{changes_verdict, record_changed, suspects_some, teller_of}
use Rattle.lg_notes.specs.Meaning.Insights.{InsightsValue}
use Rattle.lg_notes.specs.Meaning.Probing.{acked_steps, acker_of, ended_steps, helpers_asked, nacked_steps, nacker_of}
use Rattle.lg_notes.specs.Meaning.Probing.{pinged_steps, minute_steps, scored_steps, unanswered_steps}
use Rattle.lg_notes.specs.Meaning.Steps.{steps_of}
use Rattle.lg_notes.specs.Meaning.Suspecting.{changed_steps, suspected_steps, time_over_steps, told_claims, told_steps}
use Rattle.lg_notes.specs.Meaning.Timers.{ends_round}
use Rattle.lg_notes.specs.Meaning.Watching.{ping_of_start}

-- What has to be unfolded to compute the steps of a worked entry.
unfoldable pub by_computing : Unit {0}
unfolding acked_steps acker_of changed_steps ended_steps helpers_asked nacked_steps nacker_of ping_of_start pinged_steps
    ratio_of record_changed minute_steps scored_steps steps_of suspected_steps time_over_steps timeout_of told_claims
    told_steps unanswered_steps
by_computing = tt

-- b watches c, and has no group
abbrev pub of_c : NoteSubject
of_c = record { name = c ∷ []; me = b ∷ []; group = None }

-- b watches c, in the group g
abbrev pub of_c_in_g : NoteSubject
of_c_in_g = record of_c { group = Some (103 ∷ []) }

abbrev pub probe_7 : Option RunningProbe
probe_7 = Some (record { number = 7; since = 1020 })

-- c isn't suspected, and probe 7 of it runs
abbrev pub probed : Watch
probed = record { is_suspected = false; probe = probe_7 }

abbrev pub unwatched : Watch
unwatched = record { is_suspected = false; probe = None }

-- the record of a member with a name of one letter at a port
abbrev pub is_at_port : ℕ → ℕ → Status → Claim
is_at_port letter port status =
    record { name = letter ∷ []; addr = at port; status = status; incarnation = 0 }

abbrev pub c_is : Status → Claim
c_is status = is_at_port c 7103 status

-- the table, with c in this status: five members are neither failed nor left
abbrev pub table_with : Status → List Claim
table_with status =
    is_at_port a 7101 Alive ∷ is_at_port b 7102 Alive ∷ c_is status ∷ is_at_port d 7104 Alive ∷ is_at_port e 7105 Alive
    ∷ is_at_port 102 7106 Failed ∷ is_at_port 103 7107 Left ∷ []

-- the replies with which a timer fires, with these packets and this change
abbrev pub fires : ℕ → TimerId → Reply
fires deadline id = record (nothing 0) { fired = Some (timer_of deadline id) }

abbrev pub changes : Status → Reply → Reply
changes status r = record r { changed = record { items = c_is status ∷ [] } }

-- a Ping 7 for c begins a round
abbrev pub starts : Reply
starts = record (fires 1020 RoundStart) { sends = record { items = sent 7103 (Ping 7 (c ∷ [])) [] } }

-- a and d are asked to ping it, and e isn't
abbrev pub asks : Reply
asks = record (fires 1520 Direct) {
  sends = record {
    items =
        sent 7101 (PingReq 7 (c ∷ []) (at 7103)) [] ++ sent 7105 Gossip []
        ++ sent 7104 (PingReq 7 (c ∷ []) (at 7103)) [];
  };
}

abbrev pub ends : Reply
ends = fires 2020 RoundEnd

-- a packet of a member with a name of one letter, of a group
abbrev pub hears : Option (List ℕ) → ℕ → Body → List Claim → Event
hears group letter body claims =
    Heard 1905 (at 1)
    (record {
      version = Three;
      group = group;
      sender = letter ∷ [];
      body = body;
      claims = record { items = claims };
    })

-- the suspicion of c since 2020 among five members, after some confirmations
abbrev pub suspicion_after_some : ℕ → SuspicionStanding
suspicion_after_some n =
    record { raised = 2020; timeout = record { min = 3484; max = 20904; confirmations = 3 }; confirmations = n }

abbrev pub knows : ℕ → Option SuspicionStanding → Insight
knows score suspicion = record { score = score; suspicion = suspicion }

-- the score rises from 0 to 2, and c is suspected
abbrev pub suspected_at_end : Option InsightsValue
suspected_at_end = Some (knows 0 None, knows 2 (Some (suspicion_after_some 0)), table_with (Suspect (b ∷ [])))

-- d confirms the suspicion
abbrev pub confirmed : Option InsightsValue
confirmed =
    Some (
      knows 2 (Some (suspicion_after_some 0)),
      knows 2 (Some (suspicion_after_some 1)),
      table_with (Suspect (b ∷ [])),
    )

abbrev pub unmoved : Option InsightsValue
unmoved = Some (knows 1 None, knows 1 None, table_with Alive)

-- ---- the rows, each by itself

-- We pinged it (probe 7, at 127.0.0.1:7103).
pinged : pinged_steps (c ∷ []) starts ≡ Pinged 7 (at 7103) ∷ []
unfolding by_computing
pinged = refl

-- a start of a round that pings another tells nothing of c
pinged_another : pinged_steps (d ∷ []) starts ≡ []
unfolding by_computing
pinged_another = refl

-- No Ack came within 500 ms. We asked a and d to ping it.
unanswered : unanswered_steps probe_7 asks (table_with Alive)
    ≡ Unanswered 500
    (record {
      items =
          record { addr = at 7101; name = Some (a ∷ []) } ∷ record { addr = at 7104; name = Some (d ∷ []) } ∷ [];
    })
    ∷ []
unfolding by_computing
unanswered = refl

-- without a table the addresses are told
unanswered_unknown : unanswered_steps probe_7 asks []
    ≡ Unanswered 500
    (record { items = record { addr = at 7101; name = None } ∷ record { addr = at 7104; name = None } ∷ [] })
    ∷ []
unfolding by_computing
unanswered_unknown = refl

-- There was nobody to ask. The probe began later than that timer's deadline.
unanswered_alone : unanswered_steps (Some (record { number = 7; since = 1600 })) (fires 1520 Direct) (table_with Alive)
    ≡ Unanswered 0 (record { items = [] }) ∷ []
unfolding by_computing
unanswered_alone = refl

-- no probe of c runs
unanswered_unprobed : unanswered_steps None asks (table_with Alive) ≡ []
unfolding by_computing
unanswered_unprobed = refl

-- a sent a Nack: no Ack of it had come.
nacked : nacked_steps of_c probe_7 (hears None a (Nack 7 (Some (b ∷ []))) []) ≡ Nacked (a ∷ []) ∷ []
unfolding by_computing
nacked = refl

-- A Nack of another number, one to another member, and one of another group tell nothing.
nacked_otherwise : map (nacked_steps of_c probe_7)
    (hears None a (Nack 8 None) [] ∷ hears None a (Nack 7 (Some (d ∷ []))) []
    ∷ hears (Some (103 ∷ [])) a (Nack 7 None) [] ∷ hears None a (Ack 7 None) [] ∷ [])
    ≡ [] ∷ [] ∷ [] ∷ [] ∷ []
unfolding by_computing
nacked_otherwise = refl

-- c sent an Ack.
acked : acked_steps of_c probe_7 (hears None c (Ack 7 None) []) ≡ Acked (c ∷ []) ∷ []
unfolding by_computing
acked = refl

acked_in_group : acked_steps of_c_in_g probe_7 (hears (Some (103 ∷ [])) c (Ack 7 None) []) ≡ Acked (c ∷ []) ∷ []
unfolding by_computing
acked_in_group = refl

acked_unprobed : acked_steps of_c None (hears None c (Ack 7 None) []) ≡ []
unfolding by_computing
acked_unprobed = refl

-- The round ended without an Ack: c was suspected, or the score is known to have risen.
ended_by_suspicion : ended_steps (c ∷ []) probe_7 (changes (Suspect (b ∷ [])) ends) None ≡ RoundEnded true ∷ []
unfolding by_computing
ended_by_suspicion = refl

ended_by_score : ended_steps (c ∷ []) probe_7 ends suspected_at_end ≡ RoundEnded true ∷ []
unfolding by_computing
ended_by_score = refl

-- The round ended.
ended : ended_steps (c ∷ []) probe_7 ends unmoved ≡ RoundEnded false ∷ []
unfolding by_computing
ended = refl

-- Our health score rose from 0 to 2.
scored : scored_steps of_c probe_7 (ticks 2020) ends suspected_at_end ≡ Scored 0 2 ∷ []
unfolding by_computing
scored = refl

-- Our health score fell from 2 to 1.
scored_with_ack :
    scored_steps of_c probe_7 (hears None c (Ack 7 None) []) (nothing 0) (Some (knows 2 None, knows 1 None, []))
    ≡ Scored 2 1 ∷ []
unfolding by_computing
scored_with_ack = refl

-- no change is told that comes with another entry, nor one that isn't known
scored_otherwise : scored_steps of_c None (ticks 2020) ends suspected_at_end
    ++ scored_steps of_c probe_7 (ticks 2020) ends unmoved ++ scored_steps of_c probe_7 (ticks 2020) ends None
    ≡ []
unfolding by_computing
scored_otherwise = refl

-- d told us that d suspects it at incarnation 0.
told :
    told_steps of_c (hears None d Gossip (is_at_port a 7101 Alive ∷ c_is (Suspect (d ∷ [])) ∷ []))
    (nothing 0) confirmed
    ≡ Told (c_is (Suspect (d ∷ []))) ∷ []
unfolding by_computing
told = refl

-- its record changed by the first of two claims
told_twice :
    told_steps of_c (hears None d Gossip (c_is Failed ∷ c_is (Suspect (d ∷ [])) ∷ [])) (changes Failed (nothing 0)) None
    ≡ Told (c_is Failed) ∷ Told (c_is (Suspect (d ∷ []))) ∷ []
unfolding by_computing
told_twice = refl

-- what changes nothing isn't told, nor is a packet of another group
told_in_vain : told_steps of_c (hears None d Gossip (c_is Alive ∷ [])) (nothing 0) unmoved
    ++ told_steps of_c_in_g (hears None d Gossip (c_is Failed ∷ [])) (changes Failed (nothing 0)) None
    ≡ []
unfolding by_computing
told_in_vain = refl

-- The time was over, and no refutation had come. We took it as failed.
time_over : steps_of of_c unwatched (ticks 7020) (changes Failed (fires 7020 (Suspicion (c ∷ [])))) None
    (record { ended = 3; suspected = 1; stood_still_ms = 20 })
    ≡ TimeOver ∷ Changed (c_is Failed) ∷ []
unfolding by_computing
time_over = refl

time_over_of_another : time_over_steps (c ∷ []) (fires 7020 (Suspicion (d ∷ []))) ≡ []
unfolding by_computing
time_over_of_another = refl

-- We knew 5 live members. After 1 of 3 confirmations the timeout was 12194 ms.
suspected : suspected_steps confirmed ≡ Suspected 5 1 3 12194 ∷ []
unfolding by_computing
suspected = refl

-- a suspicion that is as it was isn't told, nor that there is none
suspected_still :
    suspected_steps (Some (knows 2 (Some (suspicion_after_some 1)), knows 0 (Some (suspicion_after_some 1)), []))
    ++ suspected_steps (Some (knows 2 (Some (suspicion_after_some 1)), knows 0 None, []))
    ≡ []
unfolding by_computing
suspected_still = refl

-- ---- whole entries

-- The round ended without an Ack. Our health score rose from 0 to 2. We suspected it at incarnation 0. We knew 5 live
-- members. After 0 of 3 confirmations the timeout was 20904 ms. In the minute before, 54 of our rounds ended, 3 of them
-- with a suspicion, and our clock stood still for 2000 ms.
round_with_suspicion : steps_of of_c probed (ticks 2020) (changes (Suspect (b ∷ [])) ends) suspected_at_end
    (record { ended = 54; suspected = 3; stood_still_ms = 2000 })
    ≡ RoundEnded true ∷ Scored 0 2 ∷ Changed (c_is (Suspect (b ∷ []))) ∷ Suspected 5 0 3 20904 ∷ Minute 54 3 2000
    ∷ []
unfolding by_computing
round_with_suspicion = refl

-- a start of a round that follows a probe of c begins another
pinged_again : steps_of of_c probed (ticks 1020) starts unmoved
    (record { ended = 0; suspected = 0; stood_still_ms = 0 })
    ≡ Pinged 7 (at 7103) ∷ []
unfolding by_computing
pinged_again = refl

-- ---- what is read of an entry besides

tellers : map (teller_of of_c)
    (hears None d Gossip [] ∷ hears (Some (103 ∷ [])) d Gossip [] ∷ ticks 5 ∷ [])
    ≡ Some (d ∷ []) ∷ None ∷ None ∷ []
tellers = refl

verdicts : map (λ status. changes_verdict (c ∷ []) (changes status (nothing 0)))
    (Alive ∷ Suspect (b ∷ []) ∷ Failed ∷ Left ∷ [])
    ≡ false ∷ true ∷ true ∷ true ∷ []
unfolding by_computing
verdicts = refl

no_verdict : changes_verdict (d ∷ []) (changes Failed (nothing 0)) ≡ false
unfolding by_computing
no_verdict = refl

rounds_end : map ends_round (ends ∷ starts ∷ nothing 0 ∷ []) ≡ true ∷ false ∷ false ∷ []
rounds_end = refl

some_suspect : map (λ status. suspects_some (changes status (nothing 0))) (Suspect (b ∷ []) ∷ Failed ∷ [])
    ≡ true ∷ false ∷ []
some_suspect = refl
