-- The packets that are sent, as functions of the state.
use Rattle.std.specs.Prelude.{List, [], ◌∷◌}
use Rattle.lg_rules.specs.declared.claim.Claim.{Claim}
use Rattle.lg_packet.specs.declared.packet.Body.{Body}
use Rattle.lg_packet.specs.declared.packet.Body.TheVariants.{Ping, PingReq, Ack, Nack, Pull, Page, Gossip}
use Rattle.lg_packet.specs.declared.packet.Packet.{Packet}
use Rattle.lg_membership.specs.Meaning.Gossip.{version_sent}
use Rattle.lg_membership.specs.Support.State.{taken_in, fill_in}
use Rattle.lg_detector.specs.declared.reply.Outgoing.{Outgoing}
use Rattle.lg_detector.specs.declared.message.Message.{Message}
use Rattle.lg_membership.specs.declared.addressee.Addressee.TheVariants.{Anybody, Pinged}
use Rattle.lg_detector.specs.Meaning.Groups.{own_group}
use Rattle.lg_detector.specs.Meaning.Send.{acked_one, body_told}
use Rattle.lg_detector.specs.Support.State.{State, send_taken}

abbrev pub claims_of_state : Body → State → List Claim
claims_of_state (Ping number target) s = fill_in (Pinged target) s.membership
claims_of_state (PingReq number target addr) s = fill_in Anybody s.membership
claims_of_state (Ack number receiver) s = fill_in (acked_one receiver) s.membership
claims_of_state (Nack number receiver) s = []
claims_of_state (Pull after) s = []
claims_of_state Page s = []
claims_of_state Gossip s = fill_in Anybody s.membership

-- a packet with the version, the group and the sender of all that this member sends
abbrev pub headed_state : State → Packet → Packet
headed_state s packet = record packet {
  version = version_sent s.membership.config;
  group = own_group s.membership.config;
  sender = s.membership.own.name;
}

-- the packet that is sent with a body
abbrev pub packet_state : Body → State → Packet
packet_state body s =
    let version = version_sent s.membership.config in
    record {
      version = version;
      group = own_group s.membership.config;
      sender = s.membership.own.name;
      body = body_told version body;
      claims = record { items = claims_of_state body s };
    }

abbrev pub outgoing_state : Message → State → Outgoing
outgoing_state message s = record { to = message.to; packet = packet_state message.body s }

abbrev pub send_state : Body → State → State
send_state (Ping number target) s = send_taken (taken_in (Pinged target) s.membership) s
send_state (PingReq number target addr) s = send_taken (taken_in Anybody s.membership) s
send_state (Ack number receiver) s = send_taken (taken_in (acked_one receiver) s.membership) s
send_state (Nack number receiver) s = s
send_state (Pull after) s = s
send_state Page s = s
send_state Gossip s = send_taken (taken_in Anybody s.membership) s

abbrev pub send_all_state : List Message → State → State
send_all_state [] s = s
send_all_state (m ∷ ms) s = send_all_state ms (send_state m.body s)

abbrev pub packets_state : List Message → State → List Outgoing
packets_state [] s = []
packets_state (m ∷ ms) s = outgoing_state m s ∷ packets_state ms (send_state m.body s)
