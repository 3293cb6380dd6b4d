-- Worked packets of version 3: receivers, groups, Gossips, and addresses of sixteen bytes.
use Rattle.std.specs.Prelude.{◌≡◌, ℕ, List, [], ◌∷◌, ◌++◌, replicate, Option, Some, None, refl}
use Rattle.lg_rules.specs.declared.addr.Addr.{Addr}
use Rattle.lg_rules.specs.declared.addr.Ip.TheVariants.{V6}
use Rattle.lg_rules.specs.declared.claim.Claim.{Claim}
use Rattle.lg_rules.specs.declared.claim.Status.TheVariants.{Alive}
use Rattle.lg_rules.specs.declared.version.Version.TheVariants.{One, Two, Three}
use Rattle.lg_timing.specs.Meaning.Config.{defaults}
use Rattle.lg_packet.specs.declared.packet.Body.TheVariants.{Ping, PingReq, Ack, Nack, Pull, Page, Gossip}
use Rattle.lg_detector.specs.declared.event.Event.{Event}
use Rattle.lg_detector.specs.declared.event.Event.TheVariants.{Open, Heard, Pull as Pulls}
use Rattle.lg_detector.specs.Meaning.Hear.{is_meant}
use Rattle.lg_detector.specs.Meaning.Probing.{helpers}
use Rattle.lg_detector.specs.Meaning.Send.{body_told}
use Rattle.lg_detector.specs.Meaning.Step.{reply_after, view_after}
use Rattle.lg_detector.specs.Meaning.Examples.{by_computing, a, b, c, d, at, alive, says_in, ticks, nothing}
use Rattle.lg_detector.specs.Meaning.Examples.{sent_in, log_after}

-- b is opened with a `wire`
abbrev opening_of : ℕ → Event
opening_of wire = Open 0 (record (defaults (b ∷ []) (at 7000)) { wire = wire })

-- RECEIVERS
-- b acks a Ping of a in version 3, and says that the Ack is for a. It tells its own arrival too, which it queued when
-- it was opened.
an_ack_names_its_receiver :
    reply_after (opening_of 3 ∷ []) (says_in Three 0 (Ping 8 (b ∷ [])) (alive c 0 ∷ []))
    ≡ record (nothing 0) {
      sends = record { items = sent_in Three 1 (Ack 8 (Some (a ∷ []))) (alive b 0 ∷ alive c 0 ∷ []) };
      changed = record { items = alive c 0 ∷ [] };
    }
unfolding by_computing
an_ack_names_its_receiver = refl

none_is_told_in_two : body_told Two (Nack 8 (Some (a ∷ []))) ≡ Nack 8 None
none_is_told_in_two = refl

-- An Ack of c ends a relay of b if it is for b, or for nobody in particular. b's arrival was told once, with its Ping.
abbrev relayed_to_c : List Event
relayed_to_c = opening_of 3 ∷ says_in Three 0 (PingReq 9 (c ∷ []) (at 7003)) [] ∷ []

abbrev acked_for : Option (List ℕ) → Event
acked_for receiver =
    Heard 5 (at 7003)
    (record {
      version = Three;
      group = None;
      sender = c ∷ [];
      body = Ack 1 receiver;
      claims = record { items = alive d 0 ∷ [] };
    })

for_b : (reply_after relayed_to_c (acked_for (Some (b ∷ [])))).sends.items
    ≡ sent_in Three 1 (Ack 9 (Some (a ∷ []))) (alive d 0 ∷ alive b 0 ∷ [])
unfolding by_computing
for_b = refl

for_nobody_in_particular : (reply_after relayed_to_c (acked_for None)).sends.items
    ≡ sent_in Three 1 (Ack 9 (Some (a ∷ []))) (alive d 0 ∷ alive b 0 ∷ [])
unfolding by_computing
for_nobody_in_particular = refl

-- The body of one for another member does nothing, but its claims are heard.
for_another :
    reply_after relayed_to_c (acked_for (Some (d ∷ [])))
    ≡ record (nothing 0) { changed = record { items = alive d 0 ∷ [] } }
unfolding by_computing
for_another = refl

a_nack_for_another : is_meant (b ∷ []) (Nack 1 (Some (d ∷ []))) ≡ is_meant (b ∷ []) (Ack 1 (Some (d ∷ [])))
a_nack_for_another = refl

-- GROUPS
-- b has no group, so it hears nothing of a packet that names one. GroupExamples has a b with a group.
abbrev of_group_g : Event
of_group_g =
    Heard 5 (at 1)
    (record {
      version = Three;
      group = Some (103 ∷ []);
      sender = a ∷ [];
      body = Ping 8 (b ∷ []);
      claims = record { items = alive c 0 ∷ [] };
    })

of_another_group : reply_after (opening_of 3 ∷ []) of_group_g ≡ nothing 0
unfolding by_computing
of_another_group = refl

nobody_is_known_by_it : view_after (opening_of 3 ∷ of_group_g ∷ []) ≡ alive b 0 ∷ []
unfolding by_computing
nobody_is_known_by_it = refl

-- GOSSIPS
a_gossip_is_heard :
    reply_after (opening_of 1 ∷ []) (says_in Three 5 Gossip (alive c 0 ∷ []))
    ≡ record (nothing 0) { changed = record { items = alive c 0 ∷ [] } }
unfolding by_computing
a_gossip_is_heard = refl

-- ADDRESSES OF SIXTEEN BYTES
abbrev far : Addr
far = record { ip = V6 (replicate 15 0 ++ 1 ∷ []); port = 7 }

abbrev far_c : Claim
far_c = record { name = c ∷ []; addr = far; status = Alive; incarnation = 0 }

abbrev hears_of_far_c : Event
hears_of_far_c = says_in Three 0 Gossip (far_c ∷ alive d 0 ∷ [])

-- b pings c, which is at ::1, and then d may be asked to, but only if what b sends can tell where c is.
abbrev pings_far_c : ℕ → List Event
pings_far_c wire = opening_of wire ∷ hears_of_far_c ∷ ticks 0 ∷ []

nobody_is_asked_in_two : helpers (0 ∷ []) (log_after (pings_far_c 2)) ≡ []
unfolding by_computing
nobody_is_asked_in_two = refl

asked_in_three : helpers (0 ∷ []) (log_after (pings_far_c 3)) ≡ (d ∷ []) ∷ []
unfolding by_computing
asked_in_three = refl

-- A Pull carries this member's record if its address can be told.
abbrev opened_far : ℕ → Event
opened_far wire = Open 0 (record (defaults (b ∷ []) far) { wire = wire })

an_untold_pull :
    (reply_after (opened_far 1 ∷ []) (Pulls 5 (at 7002))).sends.items ≡ sent_in One 7002 (Pull None) []
unfolding by_computing
an_untold_pull = refl

a_page_in_one :
    (reply_after (opening_of 1 ∷ hears_of_far_c ∷ []) (says_in One 5 (Pull None) [])).sends.items
    ≡ sent_in One 1 Page (alive b 0 ∷ alive d 0 ∷ [])
unfolding by_computing
a_page_in_one = refl
