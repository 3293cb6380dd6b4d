-- Worked rounds of b: whom it probes, who helps, what it claims at the end, and its score. Each tick fires one timer,
-- the first of those that are due.
use Rattle.std.specs.Prelude.{◌≡◌, ℕ, ℤ, pos, negsuc, true, false, List, [], ◌∷◌, ◌++◌, Some, None, refl}
use Rattle.lg_rules.specs.declared.claim.Claim.{Claim}
use Rattle.lg_rules.specs.declared.claim.Status.TheVariants.{Alive, Suspect}
use Rattle.lg_timing.specs.Meaning.Score.{ScoreValue}
use Rattle.lg_packet.specs.declared.packet.Body.{Body}
use Rattle.lg_packet.specs.declared.packet.Body.TheVariants.{Ping, PingReq, Ack, Nack}
use Rattle.lg_rules.specs.declared.version.Version.TheVariants.{One}
use Rattle.lg_timers.specs.declared.timer.TimerId.TheVariants.{RoundEnd, Suspicion, Direct}
use Rattle.lg_detector.specs.declared.event.Event.{Event}
use Rattle.lg_detector.specs.declared.event.Event.TheVariants.{Tick, Heard, Health}
use Rattle.lg_detector.specs.declared.reply.Answer.TheVariants.{Health as OfHealth}
use Rattle.lg_detector.specs.Meaning.Log.{Log, Fired}
use Rattle.lg_detector.specs.Meaning.Probing.{cycle_names, helpers, round}
use Rattle.lg_detector.specs.Meaning.Window.{targets, AreOthers}
use Rattle.lg_detector.specs.Meaning.Timing.{earned, mark_of_ack, score}
use Rattle.lg_detector.specs.Meaning.Send.{claims_of}
use Rattle.lg_detector.specs.Meaning.Tick.{request_to, requests, suspect_of}
use Rattle.lg_detector.specs.Meaning.Step.{reply_after}
use Rattle.lg_detector.specs.Meaning.Examples.{by_computing, a, b, c, d, e, f, z, at, alive, failed, suspect}
use Rattle.lg_detector.specs.Meaning.Examples.{opening, says, pings, accusing, accused_twice, ticks, timer_of}
use Rattle.lg_detector.specs.Meaning.Examples.{start_of_round, nothing, sent, log_after, suspecting, suspects_c}

-- A ROUND
-- c is pinged. The Ping carries c's record, which says that it is suspected. Nobody can help.
the_round_starts :
    reply_after suspecting (ticks 2000)
    ≡ record (nothing 2500) {
      fired = Some (start_of_round 0);
      sends = record { items = sent 7000 (Ping 1 (c ∷ [])) (suspect c 0 d ∷ []) };
    }
unfolding by_computing
the_round_starts = refl

abbrev probing : List Event
probing = opening 0 ∷ accusing 2000 d ∷ ticks 2000 ∷ []

nobody_helps :
    reply_after probing (ticks 7000) ≡ record (nothing 3000) { fired = Some (timer_of 2500 Direct) }
unfolding by_computing
nobody_helps = refl

-- c is suspected already, and among two members only one accuser counts. The next round is set to start at 7000.
the_round_ends :
    reply_after (opening 0 ∷ accusing 2000 d ∷ ticks 2000 ∷ ticks 7000 ∷ []) (ticks 7000)
    ≡ record (nothing 7000) { fired = Some (timer_of 3000 RoundEnd) }
unfolding by_computing
the_round_ends = refl

abbrev ended : List Event
ended = opening 0 ∷ accusing 2000 d ∷ ticks 2000 ∷ ticks 7000 ∷ ticks 7000 ∷ []

a_failed_round_marks : (reply_after ended (Health 7000)).answer ≡ Some (OfHealth 1 0 2)
unfolding by_computing
a_failed_round_marks = refl

-- The suspicion runs out before a round starts that is due at the same moment.
a_suspicion_runs_out :
    reply_after ended (ticks 7000)
    ≡ record (nothing 7000) {
      fired = Some (timer_of 7000 (Suspicion (c ∷ [])));
      changed = record { items = failed c 0 ∷ [] };
    }
unfolding by_computing
a_suspicion_runs_out = refl

-- Nobody can be chosen then. The next round starts two intervals later, by the score.
nobody_is_chosen :
    reply_after
    (opening 0 ∷ accusing 2000 d ∷ ticks 2000 ∷ ticks 7000 ∷ ticks 7000 ∷ ticks 7000 ∷ []) (ticks 7000)
    ≡ record (nothing 9000) { fired = Some (start_of_round 7000) }
unfolding by_computing
nobody_is_chosen = refl

-- After an Ack of c that counts no helper is asked. An Ack from a stranger, or one with another number, doesn't count.
abbrev acked_by : ℕ → ℕ → Event
acked_by sender number =
    Heard 2100 (at 1)
    (record {
      version = One;
      group = None;
      sender = sender ∷ [];
      body = Ack number None;
      claims = record { items = [] };
    })

an_ack_counts : (reply_after probing (acked_by c 1)).next ≡ 3000
unfolding by_computing
an_ack_counts = refl

an_ack_of_a_stranger_does_not_count : (reply_after probing (acked_by z 1)).next ≡ 2500
unfolding by_computing
an_ack_of_a_stranger_does_not_count = refl

an_ack_of_another_number_does_not_count : (reply_after probing (acked_by c 2)).next ≡ 2500
unfolding by_computing
an_ack_of_another_number_does_not_count = refl

-- TURNS
-- b knows c and d. The word 0 chooses c of both. Then 6 chooses d, which is left, and 5 begins a new cycle, with d.
abbrev knows_two : List Event
knows_two = opening 0 ∷ says 0 (Ack 7 None) (alive c 0 ∷ alive d 0 ∷ []) ∷ []

abbrev started : ℕ → Log → Log
started word log = Fired (start_of_round 0) (word ∷ []) ∷ log

abbrev started_once : Log
started_once = started 0 (log_after knows_two)

abbrev started_twice : Log
started_twice = started 6 started_once

one_is_chosen : cycle_names started_once ≡ (c ∷ []) ∷ []
unfolding by_computing
one_is_chosen = refl

both_are_chosen : cycle_names started_twice ≡ (d ∷ []) ∷ (c ∷ []) ∷ []
unfolding by_computing
both_are_chosen = refl

a_new_cycle_begins : cycle_names (started 5 started_twice) ≡ (d ∷ []) ∷ []
unfolding by_computing
a_new_cycle_begins = refl

-- The stretch in which these three rounds start: its targets, of which any three must include both names; and that
-- both names are the others that aren't gone throughout it.
abbrev three_starts : Log
three_starts = started 5 (started 6 (started 0 []))

three_targets : targets three_starts (log_after knows_two) ≡ (c ∷ []) ∷ (d ∷ []) ∷ (d ∷ []) ∷ []
unfolding by_computing
three_targets = refl

both_throughout : AreOthers ((c ∷ []) ∷ (d ∷ []) ∷ []) three_starts (log_after knows_two)
unfolding by_computing
both_throughout = (refl, (refl, (refl, refl)))

-- The same by events: c acks, the round ends, and the next one pings d.
the_other_is_pinged :
    (reply_after
    (opening 0 ∷ says 0 (Ack 7 None) (alive c 0 ∷ alive d 0 ∷ []) ∷ ticks 0 ∷ acked_by c 1 ∷ ticks 2100 ∷ [])
    (ticks 2100)).sends.items
    ≡ sent 7000 (Ping 2 (d ∷ [])) (alive c 0 ∷ alive d 0 ∷ [])
unfolding by_computing
the_other_is_pinged = refl

-- HELPERS
-- b knows c, d, e and f, and probes c. Of d, e and f the word 5 picks f, then 0 picks d, and 9 picks e, which is left.
abbrev alive_at : ℕ → ℕ → Claim
alive_at port letter = record { name = letter ∷ []; addr = at port; status = Alive; incarnation = 0 }

abbrev four_others : List Claim
four_others = alive_at 7003 c ∷ alive_at 7004 d ∷ alive_at 7005 e ∷ alive_at 7006 f ∷ []

-- what comes after c was pinged, and what comes after the helpers were asked
abbrev pinged_then : List Event → List Event
pinged_then events = opening 0 ∷ says 0 (Ack 7 None) four_others ∷ ticks 0 ∷ events

abbrev asking : Event
asking = Tick 500 (5 ∷ 0 ∷ 9 ∷ 0 ∷ 0 ∷ 0 ∷ 0 ∷ 0 ∷ [])

abbrev asked_then : List Event → List Event
asked_then events = pinged_then (asking ∷ events)

abbrev three_helpers : List (List ℕ)
three_helpers = (f ∷ []) ∷ (d ∷ []) ∷ (e ∷ []) ∷ []

helpers_are_picked : helpers (5 ∷ 0 ∷ 9 ∷ []) (log_after (pinged_then [])) ≡ three_helpers
unfolding by_computing
helpers_are_picked = refl

-- Each helper is asked, at its own address, to ping c at c's address.
abbrev request : Body
request = PingReq 1 (c ∷ []) (at 7003)

a_helper_is_asked : request_to 1 (alive_at 7003 c) (alive_at 7006 f) ≡ record { to = at 7006; body = request }
a_helper_is_asked = refl

who_is_not_known_is_not_asked :
    requests (round (log_after (pinged_then []))) four_others ((f ∷ []) ∷ (z ∷ []) ∷ (d ∷ []) ∷ [])
    ≡ record { to = at 7006; body = request } ∷ record { to = at 7004; body = request } ∷ []
unfolding by_computing
who_is_not_known_is_not_asked = refl

-- The Ping to c took the four claims, and so does each of these packets. Then each claim has been sent four times,
-- which is its retransmit limit.
helpers_are_asked :
    reply_after (pinged_then []) asking
    ≡ record (nothing 1000) {
      fired = Some (timer_of 500 Direct);
      sends = record {
        items = sent 7006 request four_others ++ sent 7004 request four_others
            ++ sent 7005 request four_others;
      };
    }
unfolding by_computing
helpers_are_asked = refl

no_claim_is_left : claims_of (Ack 1 None) (log_after (asked_then [])) ≡ []
unfolding by_computing
no_claim_is_left = refl

-- A PingReq takes a suspected target's record like any claim of the queue. A Ping to that target begins with the
-- record, and a Nack has no claims.
a_request_has_no_buddy : claims_of request (log_after suspects_c) ≡ alive a 0 ∷ suspect c 0 d ∷ []
unfolding by_computing
a_request_has_no_buddy = refl

a_ping_has_its_buddy : claims_of (Ping 1 (c ∷ [])) (log_after suspects_c) ≡ suspect c 0 d ∷ alive a 0 ∷ []
unfolding by_computing
a_ping_has_its_buddy = refl

a_nack_has_no_claims : claims_of (Nack 1 None) (log_after suspects_c) ≡ []
a_nack_has_no_claims = refl

-- THE END
-- A target is claimed to be suspected at its incarnation and its address, unless it has failed.
one_alive_is_accused : suspect_of (b ∷ []) (Some (alive c 3)) ≡ suspect c 3 b ∷ []
one_alive_is_accused = refl

a_suspect_is_accused : suspect_of (b ∷ []) (Some (suspect c 3 d)) ≡ suspect c 3 b ∷ []
a_suspect_is_accused = refl

one_that_failed_is_not_accused : suspect_of (b ∷ []) (Some (failed c 3)) ≡ []
one_that_failed_is_not_accused = refl

a_target_is_accused :
    reply_after (asked_then []) (ticks 1000)
    ≡ record (nothing 1000) {
      fired = Some (timer_of 1000 RoundEnd);
      changed = record { items = record (alive_at 7003 c) { status = Suspect (b ∷ []) } ∷ [] };
    }
unfolding by_computing
a_target_is_accused = refl

-- c fails while it is probed: nothing is claimed, but the round counts.
abbrev failing : List Event
failing = opening 0 ∷ says 0 (Ack 7 None) (alive c 0 ∷ []) ∷ ticks 0 ∷ pings 100 1 b (failed c 0 ∷ [])
    ∷ ticks 500 ∷ []

a_failed_target_is_not_accused :
    reply_after failing (ticks 1000) ≡ record (nothing 1000) { fired = Some (timer_of 1000 RoundEnd) }
unfolding by_computing
a_failed_target_is_not_accused = refl

-- THE SCORE
-- No Ack of c counts. The round marks 2 if a helper is silent, and 1 if each sent its Nack.
abbrev nacked_by : ℕ → Event
nacked_by sender =
    Heard 600 (at 1)
    (record { version = One; group = None; sender = sender ∷ []; body = Nack 1 None; claims = record { items = [] } })

abbrev earned_after : List Event → List ℤ
earned_after events = earned (log_after events)

abbrev score_after : List Event → ScoreValue
score_after events = score (log_after events)

one_is_silent :
    round (log_after (asked_then (nacked_by f ∷ nacked_by d ∷ [])))
    ≡ Some record { number = 1; target = c ∷ []; asked = three_helpers; silent = (e ∷ []) ∷ []; acked = false }
unfolding by_computing
one_is_silent = refl

all_silent_mark_two : earned_after (asked_then (ticks 1000 ∷ [])) ≡ pos 2 ∷ []
unfolding by_computing
all_silent_mark_two = refl

one_silent_marks_two : earned_after (asked_then (nacked_by f ∷ nacked_by d ∷ ticks 1000 ∷ [])) ≡ pos 2 ∷ []
unfolding by_computing
one_silent_marks_two = refl

the_score_is_two :
    score_after (asked_then (nacked_by f ∷ nacked_by d ∷ ticks 1000 ∷ [])) ≡ record { value = 2; max = 8 }
unfolding by_computing
the_score_is_two = refl

none_silent_marks_one :
    earned_after (asked_then (nacked_by f ∷ nacked_by d ∷ nacked_by e ∷ ticks 1000 ∷ [])) ≡ pos 1 ∷ []
unfolding by_computing
none_silent_marks_one = refl

the_score_is_one :
    score_after (asked_then (nacked_by f ∷ nacked_by d ∷ nacked_by e ∷ ticks 1000 ∷ []))
    ≡ record { value = 1; max = 8 }
unfolding by_computing
the_score_is_one = refl

-- The score is 1, since b refuted a suspicion. The first Ack that counts lowers it to 0; a second one does nothing.
abbrev refuted_then : List Event → List Event
refuted_then events = opening 0 ∷ accused_twice ∷ says 0 (Ack 7 None) (alive c 0 ∷ []) ∷ ticks 0 ∷ events

a_first_ack_marks : mark_of_ack true (pos 1 ∷ []) ≡ negsuc 0 ∷ pos 1 ∷ []
a_first_ack_marks = refl

another_ack_does_not_mark : mark_of_ack false (pos 1 ∷ []) ≡ pos 1 ∷ []
another_ack_does_not_mark = refl

the_score_before : score_after (refuted_then []) ≡ record { value = 1; max = 8 }
unfolding by_computing
the_score_before = refl

an_ack_lowers_the_score : score_after (refuted_then (acked_by c 1 ∷ [])) ≡ record { value = 0; max = 8 }
unfolding by_computing
an_ack_lowers_the_score = refl

two_acks_mark_once : earned_after (refuted_then (acked_by c 1 ∷ acked_by c 1 ∷ [])) ≡ negsuc 0 ∷ pos 1 ∷ []
unfolding by_computing
two_acks_mark_once = refl

-- An Ack of a helper that was asked also counts.
an_ack_of_a_helper_marks : earned_after (asked_then (acked_by d 1 ∷ [])) ≡ negsuc 0 ∷ []
unfolding by_computing
an_ack_of_a_helper_marks = refl
