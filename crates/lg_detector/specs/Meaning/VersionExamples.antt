-- Worked packets of versions 1 and 2: what a member sends has the version of its own `wire`, and what it hears in one
-- version is taken as in the other.
use Rattle.std.specs.Prelude.{◌≡◌, ℕ, List, [], ◌∷◌, Some, None, refl}
use Rattle.lg_timing.specs.Meaning.Config.{defaults}
use Rattle.lg_packet.specs.declared.packet.Body.TheVariants.{Ping, PingReq, Ack, Nack, Pull, Page}
use Rattle.lg_packet.specs.declared.packet.Packet.{Packet}
use Rattle.lg_rules.specs.declared.version.Version.{Version}
use Rattle.lg_rules.specs.declared.version.Version.TheVariants.{One, Two}
use Rattle.lg_packet.specs.Meaning.Spelling.{spelling}
use Rattle.lg_timers.specs.declared.timer.TimerId.TheVariants.{Direct, RelayNack}
use Rattle.lg_membership.specs.Meaning.Gossip.{version_sent}
use Rattle.lg_detector.specs.declared.event.Event.{Event}
use Rattle.lg_detector.specs.declared.event.Event.TheVariants.{Open, Pull as Pulls}
use Rattle.lg_detector.specs.declared.reply.Reply.{Reply}
use Rattle.lg_detector.specs.Meaning.Step.{reply_after}
use Rattle.lg_detector.specs.Meaning.Examples.{by_computing, a, b, c, d, at, alive, says, says_in, ticks}
use Rattle.lg_detector.specs.Meaning.Examples.{timer_of, start_of_round, nothing, sent_in}

-- b is opened with a `wire`
abbrev opening_of : ℕ → Event
opening_of wire = Open 0 (record (defaults (b ∷ []) (at 7000)) { wire = wire })

-- Without a configuration the version is 1, and so it is by default.
no_version_is_set : version_sent None ≡ One
no_version_is_set = refl

version_one_by_default : version_sent (Some (defaults (b ∷ []) (at 7000))) ≡ One
version_one_by_default = refl

-- PINGS
-- a is at port 7001, has the `wire` 2, and knows b from a seed. Its first Ping, and the bytes that spell it.
abbrev opening_of_a : Event
opening_of_a =
    Open 0
    (record (defaults (a ∷ []) (at 7001)) {
      wire = 2;
      seeds = record { items = record { name = b ∷ []; addr = at 7002 } ∷ [] };
    })

abbrev its_ping : Packet
its_ping = record {
  version = Two;
  group = None;
  sender = a ∷ [];
  body = Ping 1 (b ∷ []);
  claims = record { items = [] };
}

it_pings_in_version_two :
    reply_after (opening_of_a ∷ []) (ticks 0)
    ≡ record (nothing 500) {
      fired = Some (start_of_round 0);
      sends = record { items = record { to = at 7002; packet = its_ping } ∷ [] };
    }
unfolding by_computing
it_pings_in_version_two = refl

its_bytes : spelling its_ping ≡ 0x53 ∷ 0x4c ∷ 2 ∷ 1 ∷ 1 ∷ 97 ∷ 0 ∷ 0 ∷ 0 ∷ 1 ∷ 1 ∷ 98 ∷ 0 ∷ []
unfolding spelling
its_bytes = refl

-- ACKS
-- a pings b in one version, and b acks in the version of its own `wire`. But for its version the reply is the same.
abbrev acks_in : Version → Reply
acks_in version =
    record (nothing 0) {
      sends = record { items = sent_in version 1 (Ack 8 None) (alive c 0 ∷ []) };
      changed = record { items = alive c 0 ∷ [] };
    }

abbrev pings_in : Version → Event
pings_in version = says_in version 0 (Ping 8 (b ∷ [])) (alive c 0 ∷ [])

one_is_acked_in_two : reply_after (opening_of 2 ∷ []) (pings_in One) ≡ acks_in Two
unfolding by_computing
one_is_acked_in_two = refl

two_is_acked_in_two : reply_after (opening_of 2 ∷ []) (pings_in Two) ≡ acks_in Two
unfolding by_computing
two_is_acked_in_two = refl

two_is_acked_in_one : reply_after (opening_of 1 ∷ []) (pings_in Two) ≡ acks_in One
unfolding by_computing
two_is_acked_in_one = refl

-- RELAYS
-- a, of version 1, asks b to ping c: the Ping to c has the version of b, and so has the Nack to a.
abbrev requests_a_ping : Event
requests_a_ping = says 510 (PingReq 1 (c ∷ []) (at 7003)) []

a_relayed_ping_in_two :
    (reply_after (opening_of 2 ∷ []) requests_a_ping).sends.items ≡ sent_in Two 7003 (Ping 1 (c ∷ [])) []
unfolding by_computing
a_relayed_ping_in_two = refl

a_nack_in_two :
    reply_after (opening_of 2 ∷ requests_a_ping ∷ ticks 910 ∷ []) (ticks 910)
    ≡ record (nothing 1510) {
      fired = Some (timer_of 910 (RelayNack 1));
      sends = record { items = sent_in Two 1 (Nack 1 None) [] };
    }
unfolding by_computing
a_nack_in_two = refl

-- b has pinged c, and asks d to do so.
abbrev two_others : List Event
two_others = opening_of 2 ∷ says 0 (Ack 7 None) (alive c 0 ∷ alive d 0 ∷ []) ∷ ticks 0 ∷ []

a_request_in_two :
    reply_after two_others (ticks 500)
    ≡ record (nothing 1000) {
      fired = Some (timer_of 500 Direct);
      sends = record {
        items = sent_in Two 7000 (PingReq 1 (c ∷ []) (at 7000)) (alive c 0 ∷ alive d 0 ∷ []);
      };
    }
unfolding by_computing
a_request_in_two = refl

-- JOINING
a_pull_in_two :
    reply_after (opening_of 2 ∷ []) (Pulls 5 (at 7002))
    ≡ record (nothing 0) { sends = record { items = sent_in Two 7002 (Pull None) (alive b 0 ∷ []) } }
unfolding by_computing
a_pull_in_two = refl

one_is_paged_in_two :
    (reply_after (opening_of 2 ∷ []) (says_in One 0 (Pull None) [])).sends.items
    ≡ sent_in Two 1 Page (alive b 0 ∷ [])
unfolding by_computing
one_is_paged_in_two = refl

two_is_paged_in_one :
    (reply_after (opening_of 1 ∷ []) (says_in Two 0 (Pull None) [])).sends.items
    ≡ sent_in One 1 Page (alive b 0 ∷ [])
unfolding by_computing
two_is_paged_in_one = refl
