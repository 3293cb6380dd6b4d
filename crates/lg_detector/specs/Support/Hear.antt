-- The event Heard, as functions of the state.
use Rattle.std.specs.Prelude.{ℕ, List, [], ◌∷◌, if◌then◌else◌}
use Rattle.lg_rules.specs.declared.addr.Addr.{Addr}
use Rattle.lg_packet.specs.declared.packet.Body.{Body}
use Rattle.lg_packet.specs.declared.packet.Body.TheVariants.{Ping, PingReq, Ack, Nack, Pull, Page, Gossip}
use Rattle.lg_packet.specs.declared.packet.Packet.{Packet}
use Rattle.lg_membership.specs.Meaning.Gossip.{version_sent}
use Rattle.lg_detector.specs.declared.reply.Outgoing.{Outgoing}
use Rattle.lg_detector.specs.Meaning.Groups.{own_group}
use Rattle.lg_detector.specs.Meaning.Hear.{asker_from, body_heard, claims_heard, response_by, is_relayed}
use Rattle.lg_detector.specs.Meaning.Hear.{table_teller}
use Rattle.lg_detector.specs.Meaning.Joining.{last_of_full}
use Rattle.lg_detector.specs.declared.message.Message.{Message}
use Rattle.lg_detector.specs.Support.State.{State, come_state, hear_each_state, hear_ack, hear_nack, open_relay}
use Rattle.lg_detector.specs.Support.Joining.{page_behind_state, next_pull_state}
use Rattle.lg_detector.specs.Support.Send.{send_all_state, packets_state}

abbrev pub response_state : Addr → List ℕ → Body → State → List Message
response_state source sender body s = response_by s.membership.own.name s.number s.relays source sender body

abbrev pub note_state : Addr → List ℕ → Body → State → State
note_state source sender (Ping k target) s = s
note_state source sender (PingReq k target addr) s =
    let asker = asker_from sender source k in
    if is_relayed s.membership.own.name s.relays target then open_relay target asker s else s
note_state source sender (Ack k receiver) s = hear_ack k sender s
note_state source sender (Nack k receiver) s = hear_nack k sender s
note_state source sender (Pull after) s = s
note_state source sender Page s = s
note_state source sender Gossip s = s

abbrev pub respond_state : Addr → List ℕ → Body → State → State
respond_state source sender body s =
    send_all_state (response_state source sender body s) (note_state source sender body s)

abbrev pub hear_claims_state : ℕ → Packet → State → State
hear_claims_state now packet s =
    let teller = table_teller (version_sent s.membership.config) packet in
    hear_each_state teller (claims_heard (own_group s.membership.config) packet) (come_state now s)

abbrev pub body_meant_state : Packet → State → Body
body_meant_state packet s = body_heard (own_group s.membership.config) s.membership.own.name packet

abbrev pub answer_state : Addr → Packet → State → State
answer_state source packet s = respond_state source packet.sender (body_meant_state packet s) s

abbrev pub hear_state : ℕ → Addr → Packet → State → State
hear_state now source packet s = answer_state source packet (hear_claims_state now packet s)

abbrev pub sends_of_state : Addr → Packet → Body → State → List Outgoing
sends_of_state source packet (Pull after) s = page_behind_state source after s ∷ []
sends_of_state source packet Page s = next_pull_state source (last_of_full packet.version packet.claims.items) s
sends_of_state source packet body s =
    packets_state (response_state source packet.sender body s) (note_state source packet.sender body s)

abbrev pub sends_to_state : Addr → Packet → State → List Outgoing
sends_to_state source packet s = sends_of_state source packet (body_meant_state packet s) s
