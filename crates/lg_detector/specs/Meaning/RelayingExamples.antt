-- Worked relays of b: how one is opened, its Nack and its end, and that no more than 64 are open.
use Rattle.std.specs.Prelude.{◌≡◌, ℕ, true, false, List, [], ◌∷◌, ◌++◌, replicate, Some, None, refl}
use Rattle.lg_packet.specs.declared.packet.Body.{Body}
use Rattle.lg_packet.specs.declared.packet.Body.TheVariants.{Ping, PingReq, Ack, Nack}
use Rattle.lg_rules.specs.declared.version.Version.TheVariants.{One}
use Rattle.lg_timers.specs.declared.timer.TimerId.TheVariants.{RelayNack, RelayEnd}
use Rattle.lg_probe.specs.declared.relays.Asker.{Asker}
use Rattle.lg_probe.specs.declared.relays.Relay.{Relay}
use Rattle.lg_probe.specs.Meaning.Relays.{Closed}
use Rattle.lg_detector.specs.declared.event.Event.{Event}
use Rattle.lg_detector.specs.declared.event.Event.TheVariants.{Heard}
use Rattle.lg_detector.specs.declared.message.Message.{Message}
use Rattle.lg_detector.specs.Meaning.Log.{Log, Relayed}
use Rattle.lg_detector.specs.Meaning.Probing.{number}
use Rattle.lg_detector.specs.Meaning.Relaying.{closed_by, relays, is_full}
use Rattle.lg_detector.specs.Meaning.Hear.{relay_or_refuse, response, note}
use Rattle.lg_detector.specs.Meaning.Step.{reply_after}
use Rattle.lg_detector.specs.Meaning.Examples.{by_computing, a, b, c, d, at, alive, suspect, opening, says, ticks}
use Rattle.lg_detector.specs.Meaning.Examples.{timer_of, nothing, sent, acks, log_after, suspects_c}

-- a asks b by the number 1 to ping c. The relay takes the number 1 too, as the first of b. The Nack goes to a 400 ms
-- later, and the relay is closed after 1000 ms.
abbrev requested : List Event
requested = opening 0 ∷ says 510 (PingReq 1 (c ∷ []) (at 7003)) [] ∷ []

a_request_is_relayed :
    reply_after (opening 0 ∷ []) (says 510 (PingReq 1 (c ∷ []) (at 7003)) [])
    ≡ record (nothing 0) { sends = record { items = sent 7003 (Ping 1 (c ∷ [])) [] } }
unfolding by_computing
a_request_is_relayed = refl

a_request_for_oneself_is_acked :
    (reply_after (opening 0 ∷ []) (says 510 (PingReq 9 (b ∷ []) (at 7003)) [])).sends.items ≡ acks 9 []
unfolding by_computing
a_request_for_oneself_is_acked = refl

a_relay_sends_its_nack :
    reply_after (opening 0 ∷ says 510 (PingReq 1 (c ∷ []) (at 7003)) [] ∷ ticks 910 ∷ []) (ticks 910)
    ≡ record (nothing 1510) {
      fired = Some (timer_of 910 (RelayNack 1));
      sends = record { items = sent 1 (Nack 1 None) [] };
    }
unfolding by_computing
a_relay_sends_its_nack = refl

an_ack_of_the_target_is_passed_on :
    (reply_after requested
    (Heard 600 (at 7003)
    (record {
      version = One;
      group = None;
      sender = c ∷ [];
      body = Ack 1 None;
      claims = record { items = [] };
    }))).sends.items
    ≡ acks 1 []
unfolding by_computing
an_ack_of_the_target_is_passed_on = refl

-- a asked by a number; once the relay is closed, none is open any more
abbrev asked_by_a : ℕ → Asker
asked_by_a k = record { name = a ∷ []; addr = at 1; number = k }

abbrev relay_to_c : Relay
relay_to_c = record { number = 1; target = c ∷ []; asker = asked_by_a 1 }

abbrev nacked : List Event
nacked = opening 0 ∷ says 510 (PingReq 1 (c ∷ []) (at 7003)) [] ∷ ticks 910 ∷ ticks 910 ∷ []

a_nack_closes_no_relay : relays (log_after nacked) ≡ relay_to_c ∷ []
unfolding by_computing
a_nack_closes_no_relay = refl

a_relay_ends : reply_after nacked (ticks 1510) ≡ record (nothing 1910) { fired = Some (timer_of 1510 (RelayEnd 1)) }
unfolding by_computing
a_relay_ends = refl

an_end_closes : closed_by (RelayEnd 1) [] ≡ Closed 1 ∷ []
an_end_closes = refl

no_relay_is_open :
    relays (log_after
    (opening 0 ∷ says 510 (PingReq 1 (c ∷ []) (at 7003)) [] ∷ ticks 910 ∷ ticks 910 ∷ ticks 1510 ∷ []))
    ≡ []
unfolding by_computing
no_relay_is_open = refl

-- A relayed Ping to a suspected member begins with its record, although in the queue the claim about a comes first.
a_relayed_ping_has_its_buddy :
    (reply_after suspects_c (says 2100 (PingReq 1 (c ∷ []) (at 7003)) [])).sends.items
    ≡ sent 7003 (Ping 1 (c ∷ [])) (suspect c 0 d ∷ alive a 0 ∷ [])
unfolding by_computing
a_relayed_ping_has_its_buddy = refl

-- NUMBERS
-- Probes and relays are numbered together: b pings c with 1, and then d, for a, with 2. At 1000 the timers Direct,
-- RelayNack and RoundEnd fire. Then b pings c, which is suspected now, with 3.
abbrev pinged : List Event
pinged = opening 0 ∷ says 0 (Ack 7 None) (alive c 0 ∷ []) ∷ ticks 0 ∷ []

abbrev for_d : Event
for_d = says 510 (PingReq 5 (d ∷ []) (at 7004)) []

abbrev pinged_twice : List Event
pinged_twice = opening 0 ∷ says 0 (Ack 7 None) (alive c 0 ∷ []) ∷ ticks 0 ∷ for_d ∷ []

the_second_number : number (log_after pinged) ≡ 2
unfolding by_computing
the_second_number = refl

a_relay_takes_the_second : (reply_after pinged for_d).sends.items ≡ sent 7004 (Ping 2 (d ∷ [])) (alive c 0 ∷ [])
unfolding by_computing
a_relay_takes_the_second = refl

the_third_number : number (log_after pinged_twice) ≡ 3
unfolding by_computing
the_third_number = refl

a_probe_takes_the_third :
    (reply_after
    (opening 0 ∷ says 0 (Ack 7 None) (alive c 0 ∷ []) ∷ ticks 0 ∷ for_d ∷ ticks 1000 ∷ ticks 1000
    ∷ ticks 1000 ∷ [])
    (ticks 1000)).sends.items
    ≡ sent 7000 (Ping 3 (c ∷ [])) (suspect c 0 b ∷ [])
unfolding by_computing
a_probe_takes_the_third = refl

-- THE LIMIT
-- This many relays to c are open, each for a, which asked by the number 5.
abbrev relaying : ℕ → Log
relaying count = replicate count (Relayed (c ∷ []) (asked_by_a 5)) ++ log_after (opening 0 ∷ [])

one_place_is_left : is_full (relays (relaying 63)) ≡ false
one_place_is_left = refl

no_place_is_left : is_full (relays (relaying 64)) ≡ true
no_place_is_left = refl

-- Then a asks by the number 9 that d be pinged. If 63 relays are open, one more is opened, with the number 64. If 64
-- are, a Nack with a's number goes to a, and no relay is opened.
abbrev ninth : Body
ninth = PingReq 9 (d ∷ []) (at 7004)

abbrev to_d : Message
to_d = record { to = at 7004; body = Ping 64 (d ∷ []) }

abbrev refusal : Message
refusal = record { to = at 1; body = Nack 9 (Some (a ∷ [])) }

relayed_where_there_is_room : relay_or_refuse false (asked_by_a 9) to_d ≡ to_d ∷ []
relayed_where_there_is_room = refl

refused_where_there_is_none : relay_or_refuse true (asked_by_a 9) to_d ≡ refusal ∷ []
refused_where_there_is_none = refl

the_last_place_is_taken : response (at 1) (a ∷ []) ninth (relaying 63) ≡ to_d ∷ []
the_last_place_is_taken = refl

one_too_many_is_refused : response (at 1) (a ∷ []) ninth (relaying 64) ≡ refusal ∷ []
one_too_many_is_refused = refl

one_too_many_opens_none : note (at 1) (a ∷ []) ninth (relaying 64) ≡ relaying 64
one_too_many_opens_none = refl
