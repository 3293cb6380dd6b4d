-- The event Heard: the claims of a packet are applied in their order, and then its body is handled (SWIM, section
-- 3.1; Lifeguard, local health aware probe; Joining.antt).
use Rattle.std.specs.Prelude.{ℕ, Bool, true, ◌&&◌, ◌||◌, not, List, [], ◌∷◌, Option, Some, None}
use Rattle.std.specs.Prelude.{if◌then◌else◌}
use Rattle.lg_rules.specs.declared.addr.Addr.{Addr}
use Rattle.lg_rules.specs.declared.claim.Claim.{Claim}
use Rattle.lg_rules.specs.declared.version.Version.{Version}
use Rattle.lg_rules.specs.declared.version.Version.TheVariants.{One, Two, Three}
use Rattle.lg_rules.specs.Meaning.Rows.{name_cmp, is_same}
use Rattle.lg_packet.specs.declared.packet.Body.{Body}
use Rattle.lg_packet.specs.declared.packet.Body.TheVariants.{Ping, PingReq, Ack, Nack, Pull, Page, Gossip}
use Rattle.lg_packet.specs.declared.packet.Packet.{Packet}
use Rattle.lg_probe.specs.declared.relays.Asker.{Asker}
use Rattle.lg_probe.specs.declared.relays.Relay.{Relay}
use Rattle.lg_probe.specs.Meaning.Relays.{ended_asker}
use Rattle.lg_membership.specs.Meaning.Gossip.{version_sent}
use Rattle.lg_membership.specs.Meaning.Log as group
use Rattle.lg_detector.specs.declared.message.Message.{Message}
use Rattle.lg_detector.specs.declared.reply.Outgoing.{Outgoing}
use Rattle.lg_detector.specs.Meaning.Log.{Log, AckHeard, NackHeard, Relayed, group_log}
use Rattle.lg_detector.specs.Meaning.Apply.{come, hear_each}
use Rattle.lg_detector.specs.Meaning.Groups.{own_group, is_of_group}
use Rattle.lg_detector.specs.Meaning.Joining.{page_behind, next_pull, last_of_full}
use Rattle.lg_detector.specs.Meaning.Probing.{number}
use Rattle.lg_detector.specs.Meaning.Relaying.{relays, is_full}
use Rattle.lg_detector.specs.Meaning.Send.{send_all, packets}

-- What of a packet is heard by a member of this group, or of none: nothing if the packet isn't of its group. Such a
-- packet is dropped: it is an event that only moves the moment on (this project's choice).
abbrev pub claims_heard : Option (List ℕ) → Packet → List Claim
claims_heard mine packet = if is_of_group mine packet then packet.claims.items else []

-- An Ack or a Nack for another receiver than this member does what a Gossip does: nothing but its claims are heard.
abbrev pub is_for : List ℕ → Option (List ℕ) → Bool
is_for me None = true
is_for me (Some receiver) = is_same name_cmp receiver me

abbrev pub is_meant : List ℕ → Body → Bool
is_meant me (Ping k target) = true
is_meant me (PingReq k target addr) = true
is_meant me (Ack k receiver) = is_for me receiver
is_meant me (Nack k receiver) = is_for me receiver
is_meant me (Pull after) = true
is_meant me Page = true
is_meant me Gossip = true

abbrev pub body_heard : Option (List ℕ) → List ℕ → Packet → Body
body_heard mine me packet = if is_of_group mine packet && is_meant me packet.body then packet.body else Gossip

-- The packet that responds to a body, if there is one. A Ping or a PingReq for this member gets an Ack with its
-- number. A PingReq for another member (an indirect probe) is relayed as a Ping, with the next sequence number, to
-- the address in it. If as many relays are open as are allowed, it gets a Nack at once. The Ack of a relay's target
-- is passed on to the relay's asker, with the asker's number. An Ack and a Nack name their receiver. How a Pull and a
-- Page are answered is in Joining.antt.
abbrev pub asker_from : List ℕ → Addr → ℕ → Asker
asker_from name addr k = record { name = name; addr = addr; number = k }

abbrev pub ack_to : Asker → List Message
ack_to asker = record { to = asker.addr; body = Ack asker.number (Some asker.name) } ∷ []

abbrev pub nack_of : Asker → List Message
nack_of asker = record { to = asker.addr; body = Nack asker.number (Some asker.name) } ∷ []

abbrev pub pass_on : Option Asker → List Message
pass_on None = []
pass_on (Some asker) = ack_to asker

abbrev pub relay_or_refuse : Bool → Asker → Message → List Message
relay_or_refuse full asker ping = if full then nack_of asker else ping ∷ []

-- the same, of what it depends on: this member's name, the next sequence number, and the relays that are open
abbrev pub response_by : List ℕ → ℕ → List Relay → Addr → List ℕ → Body → List Message
response_by me next open_ones source sender (Ping k target) =
    if is_same name_cmp target me then ack_to (asker_from sender source k) else []
response_by me next open_ones source sender (PingReq k target addr) =
    let asker = asker_from sender source k in
    if is_same name_cmp target me
    then ack_to asker
    else relay_or_refuse (is_full open_ones) asker (record { to = addr; body = Ping next target })
response_by me next open_ones source sender (Ack k receiver) = pass_on (ended_asker k sender open_ones)
response_by me next open_ones source sender (Nack k receiver) = []
response_by me next open_ones source sender (Pull after) = []
response_by me next open_ones source sender Page = []
response_by me next open_ones source sender Gossip = []

abbrev pub response : Addr → List ℕ → Body → Log → List Message
response source sender body log =
    response_by (group.me (group_log log)) (number log) (relays log) source sender body

-- what is noted of a body: an Ack or a Nack came, or a relay is opened
abbrev pub is_relayed : List ℕ → List Relay → List ℕ → Bool
is_relayed me open_ones target = not (is_same name_cmp target me || is_full open_ones)

abbrev pub note : Addr → List ℕ → Body → Log → Log
note source sender (Ping k target) log = log
note source sender (PingReq k target addr) log =
    let asker = asker_from sender source k in
    if is_relayed (group.me (group_log log)) (relays log) target then Relayed target asker ∷ log else log
note source sender (Ack k receiver) log = AckHeard k sender ∷ log
note source sender (Nack k receiver) log = NackHeard k sender ∷ log
note source sender (Pull after) log = log
note source sender Page log = log
note source sender Gossip log = log

abbrev pub respond : Addr → List ℕ → Body → Log → Log
respond source sender body log = send_all (response source sender body log) (note source sender body log)

-- the group of this member, if it has one
abbrev pub my_group : Log → Option (List ℕ)
my_group log = own_group (group.config (group_log log))

-- Who tells a table by a packet: the sender of a Page. A member goes by that only if it sends version three, and
-- whatever the Page's version is (this project's choice).
abbrev pub page_sender : Body → List ℕ → Option (List ℕ)
page_sender Page sender = Some sender
page_sender _ sender = None

abbrev pub table_teller : Version → Packet → Option (List ℕ)
table_teller One packet = None
table_teller Two packet = None
table_teller Three packet = page_sender packet.body packet.sender

-- The claims of a packet are applied, and members are forgotten where one of them lacks room. Those of a table are
-- merged gently.
abbrev pub hear_claims : ℕ → Packet → Log → Log
hear_claims now packet log =
    let teller = table_teller (version_sent (group.config (group_log log))) packet in
    hear_each teller (claims_heard (my_group log) packet) (come now log)

-- what its body means to this member once its claims were applied
abbrev pub body_meant : Packet → Log → Body
body_meant packet log = body_heard (my_group log) (group.me (group_log log)) packet

abbrev pub hear : ℕ → Addr → Packet → Log → Log
hear now source packet log =
    let heard = hear_claims now packet log in
    respond source packet.sender (body_meant packet heard) heard

-- the packets that are sent, once the claims were applied
abbrev pub sends_of : Addr → Packet → Body → Log → List Outgoing
sends_of source packet (Pull after) log = page_behind source after log ∷ []
sends_of source packet Page log = next_pull source (last_of_full packet.version packet.claims.items) log
sends_of source packet body log =
    packets (response source packet.sender body log) (note source packet.sender body log)

abbrev pub sends_to : Addr → Packet → Log → List Outgoing
sends_to source packet log = sends_of source packet (body_meant packet log) log
