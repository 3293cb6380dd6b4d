-- The packets that are sent, and the claims that ride on them (piggyback). A packet has what it asks for or
-- acknowledges, and goes to an address. Pings, PingReqs and Acks take claims of the queue, and are filled one after
-- another (SWIM, section 4.1). So are Gossips. A Ping for a suspected member begins with its record (Lifeguard's buddy
-- system), and in version 3 so does an Ack for a suspected or failed one. Nacks, Pulls and Pages take none (this
-- project's choice); which claims Pulls and Pages have is in Joining.antt.
-- Each packet has the version and the group of the sender's own configuration, whichever versions the sender hears. It
-- has no group if the sender has none (this project's choice).
use Rattle.std.specs.Prelude.{ℕ, List, [], ◌∷◌, Option, Some, None}
use Rattle.lg_rules.specs.declared.claim.Claim.{Claim}
use Rattle.lg_rules.specs.declared.version.Version.{Version}
use Rattle.lg_rules.specs.declared.version.Version.TheVariants.{One, Two, Three}
use Rattle.lg_packet.specs.declared.packet.Body.{Body}
use Rattle.lg_packet.specs.declared.packet.Body.TheVariants.{Ping, PingReq, Ack, Nack, Pull, Page, Gossip}
use Rattle.lg_membership.specs.declared.addressee.Addressee.{Addressee}
use Rattle.lg_membership.specs.declared.addressee.Addressee.TheVariants.{Anybody, Pinged, Acked}
use Rattle.lg_membership.specs.Meaning.Gossip.{taken, fill, version_sent}
use Rattle.lg_membership.specs.Meaning.Log as group
use Rattle.lg_detector.specs.declared.message.Message.{Message}
use Rattle.lg_detector.specs.declared.reply.Outgoing.{Outgoing}
use Rattle.lg_detector.specs.Meaning.Groups.{own_group}
use Rattle.lg_detector.specs.Meaning.Log.{Log, OfGroup, group_log}

-- The body that is sent: versions one and two don't tell the receiver of an Ack or a Nack.
abbrev pub receiver_told : Version → Option (List ℕ) → Option (List ℕ)
receiver_told One receiver = None
receiver_told Two receiver = None
receiver_told Three receiver = receiver

abbrev pub body_told : Version → Body → Body
body_told v (Ping number target) = Ping number target
body_told v (PingReq number target addr) = PingReq number target addr
body_told v (Ack number receiver) = Ack number (receiver_told v receiver)
body_told v (Nack number receiver) = Nack number (receiver_told v receiver)
body_told v (Pull after) = Pull after
body_told v Page = Page
body_told v Gossip = Gossip

-- A message is a packet without its version, its sender and its claims: where it goes, and its body.

-- whom an Ack goes to, as far as its buddy goes
abbrev pub acked_one : Option (List ℕ) → Addressee
acked_one None = Anybody
acked_one (Some receiver) = Acked receiver

-- the claims that a packet with this body takes of the queue
abbrev pub claims_of : Body → Log → List Claim
claims_of (Ping number target) log = fill (Pinged target) (group_log log)
claims_of (PingReq number target addr) log = fill Anybody (group_log log)
claims_of (Ack number receiver) log = fill (acked_one receiver) (group_log log)
claims_of (Nack number receiver) log = []
claims_of (Pull after) log = []
claims_of Page log = []
claims_of Gossip log = fill Anybody (group_log log)

abbrev pub outgoing : Message → Log → Outgoing
outgoing message log =
    let claims = claims_of message.body log in
    let version = version_sent (group.config (group_log log)) in
    let sender = group.me (group_log log) in
    record {
      to = message.to;
      packet = record {
        version = version;
        group = own_group (group.config (group_log log));
        sender = sender;
        body = body_told version message.body;
        claims = record { items = claims };
      };
    }

-- the packet is sent, with the claims that it took of the queue
abbrev pub send : Body → Log → Log
send (Ping number target) log = OfGroup (group.Sent (taken (Pinged target) (group_log log))) ∷ log
send (PingReq number target addr) log = OfGroup (group.Sent (taken Anybody (group_log log))) ∷ log
send (Ack number receiver) log = OfGroup (group.Sent (taken (acked_one receiver) (group_log log))) ∷ log
send (Nack number receiver) log = log
send (Pull after) log = log
send Page log = log
send Gossip log = OfGroup (group.Sent (taken Anybody (group_log log))) ∷ log

-- packets are sent one after another, each filled after those before it
abbrev pub send_all : List Message → Log → Log
send_all [] log = log
send_all (m ∷ ms) log = send_all ms (send m.body log)

abbrev pub packets : List Message → Log → List Outgoing
packets [] log = []
packets (m ∷ ms) log = outgoing m log ∷ packets ms (send m.body log)
