-- Worked sequence numbers: the configuration says the first one, and behind the greatest comes 1. No number is in use
-- twice.
use Rattle.std.specs.Prelude.{◌≡◌, ℕ, false, List, [], ◌∷◌, map, nat_eq, Some, None, refl}
use Rattle.std.specs.List.{IsDistinct}
use Rattle.lg_rules.specs.declared.version.Version.TheVariants.{Three}
use Rattle.lg_timing.specs.Meaning.Config.{defaults}
use Rattle.lg_timers.specs.declared.timer.TimerId.TheVariants.{RelayNack}
use Rattle.lg_packet.specs.declared.packet.Body.TheVariants.{Ping, PingReq, Ack}
use Rattle.lg_detector.specs.declared.event.Event.{Event}
use Rattle.lg_detector.specs.declared.event.Event.TheVariants.{Open, Heard}
use Rattle.lg_detector.specs.Meaning.Log.{Log}
use Rattle.lg_detector.specs.Meaning.Probing.{next_number, number}
use Rattle.lg_detector.specs.Meaning.Relaying.{is_next_in_use, numbers_in_use}
use Rattle.lg_detector.specs.Meaning.Step.{reply_after}
use Rattle.lg_detector.specs.Meaning.Examples.{by_computing, b, c, d, at, suspect, says_in, ticks, timer_of, sent}
use Rattle.lg_detector.specs.Meaning.Examples.{acks, log_after}

behind_each : map next_number (1 ∷ 4294967294 ∷ 4294967295 ∷ []) ≡ 2 ∷ 4294967295 ∷ 1 ∷ []
behind_each = refl

-- b is opened with a first number, and knows c
abbrev opening_at : ℕ → Event
opening_at k =
    Open 0
    (record (defaults (b ∷ []) (at 7000)) {
      first = k;
      seeds = record { items = record { name = c ∷ []; addr = at 7000 } ∷ [] };
    })

-- PROBES
-- Nobody answers: b pings c in each round, with the last two numbers, and then with 1.
abbrev first_round : List Event
first_round = opening_at 4294967294 ∷ ticks 0 ∷ ticks 500 ∷ ticks 1000 ∷ []

abbrev second_round : List Event
second_round =
    opening_at 4294967294 ∷ ticks 0 ∷ ticks 500 ∷ ticks 1000 ∷ ticks 1000 ∷ ticks 2500 ∷ ticks 3000 ∷ []

the_last_but_one :
    (reply_after (opening_at 4294967294 ∷ []) (ticks 0)).sends.items ≡ sent 7000 (Ping 4294967294 (c ∷ [])) []
unfolding by_computing
the_last_but_one = refl

the_greatest :
    (reply_after first_round (ticks 1000)).sends.items
    ≡ sent 7000 (Ping 4294967295 (c ∷ [])) (suspect c 0 b ∷ [])
unfolding by_computing
the_greatest = refl

then_one : (reply_after second_round (ticks 3000)).sends.items ≡ sent 7000 (Ping 1 (c ∷ [])) (suspect c 0 b ∷ [])
unfolding by_computing
then_one = refl

-- RELAYS
-- a relay to c takes the greatest number, the probe behind it takes 1, and the Ack for the relay is passed on
abbrev request_for : ℕ → ℕ → Event
request_for k target = says_in Three 0 (PingReq k (target ∷ []) (at 7003)) []

abbrev greatest_acked : Event
greatest_acked =
    Heard 0 (at 1)
    (record {
      version = Three;
      group = None;
      sender = c ∷ [];
      body = Ack 4294967295 (Some (b ∷ []));
      claims = record { items = [] };
    })

a_relay_takes_the_greatest :
    (reply_after (opening_at 4294967295 ∷ []) (request_for 9 c)).sends.items
    ≡ sent 7003 (Ping 4294967295 (c ∷ [])) []
unfolding by_computing
a_relay_takes_the_greatest = refl

a_probe_takes_one :
    (reply_after (opening_at 4294967295 ∷ request_for 9 c ∷ []) (ticks 0)).sends.items
    ≡ sent 7000 (Ping 1 (c ∷ [])) []
unfolding by_computing
a_probe_takes_one = refl

the_greatest_is_acked :
    (reply_after (opening_at 4294967295 ∷ request_for 9 c ∷ ticks 0 ∷ []) greatest_acked).sends.items ≡ acks 9 []
unfolding by_computing
the_greatest_is_acked = refl

-- Both are in use then, and the next number is 2, which isn't.
abbrev both_begun : Log
both_begun = log_after (opening_at 4294967295 ∷ request_for 9 c ∷ ticks 0 ∷ [])

two_are_in_use : numbers_in_use both_begun ≡ 1 ∷ 4294967295 ∷ []
unfolding by_computing
two_are_in_use = refl

the_two_differ : IsDistinct nat_eq (numbers_in_use both_begun)
unfolding by_computing IsDistinct
the_two_differ = ((refl, tt), (tt, tt))

the_next_is_another : number both_begun ≡ 2
unfolding by_computing
the_next_is_another = refl

it_is_free : is_next_in_use both_begun ≡ false
unfolding by_computing
it_is_free = refl

-- of two relays that are opened at one moment, the Nack of that with the lesser number is sent first
the_lesser_is_first :
    (reply_after (opening_at 4294967295 ∷ request_for 8 c ∷ request_for 9 d ∷ ticks 0 ∷ []) (ticks 400)).fired
    ≡ Some (timer_of 400 (RelayNack 1))
unfolding by_computing
the_lesser_is_first = refl

-- Two relays and then a probe take 7, 8 and 9. The probe's number stands first.
abbrev three_begun : Log
three_begun = log_after (opening_at 7 ∷ request_for 8 c ∷ request_for 9 d ∷ ticks 0 ∷ [])

three_are_in_use : numbers_in_use three_begun ≡ 9 ∷ 7 ∷ 8 ∷ []
unfolding by_computing
three_are_in_use = refl

the_three_differ : IsDistinct nat_eq (numbers_in_use three_begun)
unfolding by_computing IsDistinct
the_three_differ = ((refl, (refl, tt)), ((refl, tt), (tt, tt)))
