-- The members of a cluster, what happened at each, and the packets that they sent.
use Rattle.std.specs.Prelude.{
  ℕ,
  ◌-◌,
  ◌==◌,
  nat_eq,
  Bool,
  List,
  [],
  ◌∷◌,
  ◌++◌,
  map,
  slice_get,
  Option,
  None,
  find,
  if◌then◌else◌,
}
use Rattle.std.specs.Cmp.Lexicographic.{pointwise}
use Rattle.lg_rules.specs.declared.addr.Addr.{Addr}
use Rattle.lg_rules.specs.Meaning.View.{is_same_addr}
use Rattle.lg_detector.specs.Meaning.Step.{reply_after}
use Rattle.lg_detector.specs.declared.event.Event.{Event}
use Rattle.lg_detector.specs.declared.reply.Outgoing.{Outgoing}
use Rattle.lg_sim.specs.declared.host.Member.{Member}
use Rattle.lg_sim.specs.declared.host.SentPacket.{SentPacket}

-- whether a member has this name, and whether it is at this address
abbrev pub is_named : List ℕ → Member → Bool
is_named name member = pointwise nat_eq member.name name

abbrev pub is_at : Addr → Member → Bool
is_at addr member = is_same_addr member.addr addr

-- among some members, the one with this name, and the one at this address
abbrev pub member_named : List ℕ → List Member → Option Member
member_named name members = find (is_named name) members

abbrev pub member_at : Addr → List Member → Option Member
member_at addr members = find (is_at addr) members

-- What happened at a member. Lists of happenings have the latest first.
pub record Happening : Type 0 where
  pub member : Member
  pub event : Event

-- the events of the member with this name, the earliest first
abbrev pub events_of : List ℕ → List Happening → List Event
events_of name [] = []
events_of name (h ∷ past) = events_of name past ++ (if is_named name h.member then h.event ∷ [] else [])

-- a packet, sent from this address
abbrev pub sent_from : Addr → Outgoing → SentPacket
sent_from addr outgoing = record { from = addr; outgoing = outgoing }

-- the packets that a happening sent, after the earlier ones
abbrev pub sent_by : Happening → List Happening → List SentPacket
sent_by h past =
    map (sent_from h.member.addr) (reply_after (events_of h.member.name past) h.event).sends.items

-- all packets that were sent, by all members, in the order in which they were sent
abbrev pub sent : List Happening → List SentPacket
sent [] = []
sent (h ∷ past) = sent past ++ sent_by h past

-- packet number k of those that were sent, counted from 1
abbrev pub packet_number : ℕ → List SentPacket → Option SentPacket
packet_number k packets = if k == 0 then None else slice_get packets (k - 1)
