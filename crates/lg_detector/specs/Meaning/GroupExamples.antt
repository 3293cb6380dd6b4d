-- Worked packets of a member with a group, and of others.
use Rattle.std.specs.Prelude.{◌≡◌, ℕ, false, List, [], ◌∷◌, Option, Some, None, refl}
use Rattle.lg_rules.specs.declared.claim.Claim.{Claim}
use Rattle.lg_rules.specs.declared.version.Version.{Version}
use Rattle.lg_rules.specs.declared.version.Version.TheVariants.{One, Two, Three}
use Rattle.lg_timing.specs.Meaning.Config.{defaults}
use Rattle.lg_packet.specs.declared.packet.Body.TheVariants.{Ping, Ack, Pull}
use Rattle.lg_packet.specs.declared.packet.Packet.{Packet}
use Rattle.lg_detector.specs.declared.event.Event.{Event}
use Rattle.lg_detector.specs.declared.event.Event.TheVariants.{Open, Heard, Pull as Pulls}
use Rattle.lg_detector.specs.Meaning.Groups.{is_of_group}
use Rattle.lg_detector.specs.Meaning.Step.{reply_after, view_after}
use Rattle.lg_detector.specs.Meaning.Examples.{by_computing, a, b, c, at, alive, ticks, nothing, start_of_round}

abbrev g : Option (List ℕ)
g = Some (103 ∷ [])

abbrev h : Option (List ℕ)
h = Some (104 ∷ [])

-- b of the group g is opened, and doesn't gossip.
abbrev opens_in_g : Event
opens_in_g = Open 0 (record (defaults (b ∷ []) (at 7000)) { wire = 3; gossip_ms = 0; group = g })

-- a Ping 7 of a for b, of a version and a group
abbrev ping_of : Version → Option (List ℕ) → List Claim → Packet
ping_of version group claims =
    record {
      version = version;
      group = group;
      sender = a ∷ [];
      body = Ping 7 (b ∷ []);
      claims = record { items = claims };
    }

abbrev hears_ping : ℕ → Version → Option (List ℕ) → List Claim → Event
hears_ping now version group claims = Heard now (at 1) (ping_of version group claims)

-- One of its own group is acked in it. The Ack tells b's arrival.
acked_in_g :
    reply_after (opens_in_g ∷ []) (hears_ping 0 Three g [])
    ≡ record (nothing 0) {
      sends = record {
        items =
            record {
              to = at 1;
              packet = record {
                version = Three;
                group = g;
                sender = b ∷ [];
                body = Ack 7 (Some (a ∷ []));
                claims = record { items = alive b 0 ∷ [] };
              };
            }
            ∷ [];
      };
    }
unfolding by_computing
acked_in_g = refl

-- Any other is dropped, whatever it says.
abbrev of_h : Event
of_h = hears_ping 5000 Three h (alive c 0 ∷ [])

abbrev of_none : Event
of_none = hears_ping 5000 Three None (alive c 0 ∷ [])

abbrev of_version_one : Event
of_version_one = hears_ping 5000 One None (alive c 0 ∷ [])

abbrev of_version_two : Event
of_version_two = hears_ping 5000 Two None (alive b 7 ∷ [])

h_is_dropped : reply_after (opens_in_g ∷ []) of_h ≡ nothing 0
unfolding by_computing
h_is_dropped = refl

none_is_dropped : reply_after (opens_in_g ∷ of_h ∷ []) of_none ≡ nothing 0
unfolding by_computing
none_is_dropped = refl

one_is_dropped : reply_after (opens_in_g ∷ of_h ∷ of_none ∷ []) of_version_one ≡ nothing 0
unfolding by_computing
one_is_dropped = refl

two_is_dropped : reply_after (opens_in_g ∷ of_h ∷ of_none ∷ of_version_one ∷ []) of_version_two ≡ nothing 0
unfolding by_computing
two_is_dropped = refl

-- But its moment is taken.
abbrev four_dropped : List Event
four_dropped = opens_in_g ∷ of_h ∷ of_none ∷ of_version_one ∷ of_version_two ∷ []

only_the_moment :
    reply_after four_dropped (ticks 0) ≡ record (nothing 6000) { fired = Some (start_of_round 0) }
unfolding by_computing
only_the_moment = refl

b_alone : view_after four_dropped ≡ alive b 0 ∷ []
unfolding by_computing
b_alone = refl

-- A Pull names the group too.
pulls_in_g :
    reply_after (opens_in_g ∷ []) (Pulls 0 (at 7002))
    ≡ record (nothing 0) {
      sends = record {
        items =
            record {
              to = at 7002;
              packet = record {
                version = Three;
                group = g;
                sender = b ∷ [];
                body = Pull None;
                claims = record { items = alive b 0 ∷ [] };
              };
            }
            ∷ [];
      };
    }
unfolding by_computing
pulls_in_g = refl

-- No bytes of versions one and two mean a packet that names a group. No member hears such a packet.
none_of_one_is_of_g : is_of_group g (ping_of One g []) ≡ false
none_of_one_is_of_g = refl

nor_of_none : is_of_group None (ping_of One g []) ≡ false
nor_of_none = refl

-- A member that has no group hears all versions.
all_versions : is_of_group None (ping_of Two None []) ≡ is_of_group g (ping_of Three g [])
all_versions = refl
