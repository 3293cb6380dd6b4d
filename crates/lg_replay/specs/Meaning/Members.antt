-- Which entries are about a member, by its name.
use Rattle.std.specs.Prelude.{nat_eq, Bool, false, ◌||◌, ℕ, List, Option, Some, None}
use Rattle.std.specs.List.{list_any}
use Rattle.std.specs.Cmp.Lexicographic.{pointwise}
use Rattle.lg_rules.specs.declared.claim.Claim.{Claim}
use Rattle.lg_timers.specs.declared.timer.Timer.{Timer}
use Rattle.lg_timers.specs.declared.timer.TimerId.{TimerId}
use Rattle.lg_timers.specs.declared.timer.TimerId.TheVariants as timers
use Rattle.lg_packet.specs.declared.packet.Body.{Body}
use Rattle.lg_packet.specs.declared.packet.Body.TheVariants as bodies
use Rattle.lg_packet.specs.declared.packet.Packet.{Packet}
use Rattle.lg_detector.specs.declared.event.Event.{Event}
use Rattle.lg_detector.specs.declared.event.Event.TheVariants.{Open, Tick, Heard, Ask, Health, Pull, Leave}
use Rattle.lg_detector.specs.declared.reply.Outgoing.{Outgoing}
use Rattle.lg_detector.specs.declared.reply.Reply.{Reply}

-- whether two names are the same
abbrev pub names_agree : List ℕ → List ℕ → Bool
names_agree name other = pointwise nat_eq name other

-- whether a name is there and is this one
abbrev pub names_member : List ℕ → Option (List ℕ) → Bool
names_member name None = false
names_member name (Some other) = names_agree name other

-- whether a record or a claim is about the member
abbrev pub claims_member : List ℕ → Claim → Bool
claims_member name c = names_agree name c.name

-- whether what a packet asks for or answers is about the member: a Ping or a PingReq by its target, and an Ack or a
-- Nack of version 3 by its receiver
abbrev pub asks_member : List ℕ → Body → Bool
asks_member name (bodies.Ping number target) = names_agree name target
asks_member name (bodies.PingReq number target addr) = names_agree name target
asks_member name (bodies.Ack number receiver) = names_member name receiver
asks_member name (bodies.Nack number receiver) = names_member name receiver
asks_member name (bodies.Pull behind) = false
asks_member name bodies.Page = false
asks_member name bodies.Gossip = false

-- whether a packet that is heard is about the member: it sent it, a claim is about it, or what is asked for is
abbrev pub tells_member : List ℕ → Packet → Bool
tells_member name p =
    names_agree name p.sender || list_any (claims_member name) p.claims.items || asks_member name p.body

-- whether an event is about the member
abbrev pub happens_to_member : List ℕ → Event → Bool
happens_to_member name (Open now config) = false
happens_to_member name (Tick now words) = false
happens_to_member name (Heard now source packet) = tells_member name packet
happens_to_member name (Ask now other) = names_agree name other
happens_to_member name (Health now) = false
happens_to_member name (Pull now peer) = false
happens_to_member name (Leave now words) = false

-- whether a timer that fired is one of the member: that of its suspicion, or the one that forgets it
abbrev pub times_member : List ℕ → TimerId → Bool
times_member name timers.RoundEnd = false
times_member name (timers.Suspicion member) = names_agree name member
times_member name timers.Direct = false
times_member name (timers.RelayNack relay) = false
times_member name (timers.RelayEnd relay) = false
times_member name timers.RoundStart = false
times_member name (timers.Forget member) = names_agree name member
times_member name timers.Gossip = false

abbrev pub fires_for_member : List ℕ → Option Timer → Bool
fires_for_member name None = false
fires_for_member name (Some timer) = times_member name timer.id

-- whether a packet that is sent is about the member. The claims that ride on it don't count.
abbrev pub sends_to_member : List ℕ → Outgoing → Bool
sends_to_member name s = asks_member name s.packet.body

-- whether a reply is about the member: its timer fired, a packet that is sent is about it, its record changed, or it
-- was forgotten
unfoldable pub replies_on_member : List ℕ → Reply → Bool
replies_on_member name r =
    fires_for_member name r.fired || list_any (sends_to_member name) r.sends.items
    || list_any (claims_member name) r.changed.items || list_any (names_agree name) r.forgotten.items
