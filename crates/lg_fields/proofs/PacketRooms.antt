-- A packet's spelling is short: each of its parts has at most some bytes.
use Rattle.std.proofs.Common.{◌≡◌, ℕ, ◌*◌, ◌≤◌, IsTrue, List, [], ◌∷◌, ◌++◌, length, take, Option, Some, None, refl, ap, arith, length-append}
use Rattle.std.specs.List.{AllByRecursion, flat_map}
use Rattle.std.specs.Int.{w16, to_be_bytes}
use Rattle.std.proofs.lemmas.List.{take_all}
use Rattle.std.proofs.lemmas.List.Concat.{flat_map-cons}
use Rattle.lg_rules.proofs.NameLemmas.{is_named}
use Rattle.lg_rules.specs.Meaning.Name.{is_name}
use Rattle.lg_rules.specs.Meaning.Version.{most_claims_of}
use Rattle.lg_rules.specs.declared.addr.Addr.{Addr}
use Rattle.lg_rules.specs.declared.addr.Ip.{Ip}
use Rattle.lg_rules.specs.declared.addr.Ip.TheVariants.{V4, V6}
use Rattle.lg_rules.specs.declared.claim.Claim.{Claim}
use Rattle.lg_rules.specs.declared.claim.Status.{Status}
use Rattle.lg_rules.specs.declared.claim.Status.TheVariants.{Alive, Suspect, Failed, Left}
use Rattle.lg_rules.specs.declared.version.Version.{Version}
use Rattle.lg_rules.specs.declared.version.Version.TheVariants.{One, Two, Three}
use Rattle.lg_packet.specs.declared.packet.Body.{Body}
use Rattle.lg_packet.specs.declared.packet.Body.TheVariants.{Ping, PingReq, Ack, Nack, Pull, Page, Gossip}
use Rattle.lg_packet.specs.declared.packet.Packet.{Packet}
use Rattle.lg_packet.specs.Meaning.Spelling.{spelled_accuser, spelled_addr, spelled_body, spelled_claim, spelled_claims, spelled_group, spelled_ip, spelled_name, spelled_number, spelled_or_none, spelled_receiver, spelling}
use Rattle.lg_packet.specs.Meaning.Spelling.{AreClaims, IsAddr, IsBody, IsClaim, IsGroup, IsIp, IsNameIfAny, IsPacket, IsReceiver, IsStatus}

name_room : (name : List ℕ) → IsTrue (is_name name) → length (spelled_name name) ≤ 33
name_room name fit = omega (arith, (is_named name fit).few)

or_none_room : (name : Option (List ℕ)) → IsNameIfAny name → length (spelled_or_none name) ≤ 33
or_none_room None fit = omega arith
or_none_room (Some name) fit = name_room name fit

group_room : (v : Version) (group : Option (List ℕ)) → IsGroup v group → length (spelled_group v group) ≤ 33
group_room One group fit = omega arith
group_room Two group fit = omega arith
group_room Three group fit = or_none_room group fit

receiver_room : (v : Version) (sender : List ℕ) (receiver : Option (List ℕ)) → IsReceiver v receiver → length (spelled_receiver v sender receiver) ≤ 33
receiver_room One sender receiver fit = omega arith
receiver_room Two sender receiver fit = omega arith
receiver_room Three sender None fit = absurd fit
receiver_room Three sender (Some name) fit = name_room name fit

ip_room : (v : Version) (ip : Ip) → IsIp v ip → length (spelled_ip v ip) ≤ 17
ip_room One (V4 octets) fit = omega (arith, fit.count)
ip_room One (V6 octets) fit = absurd fit
ip_room Two (V4 octets) fit = omega (arith, fit.count)
ip_room Two (V6 octets) fit = absurd fit
ip_room Three (V4 octets) fit = omega (arith, fit.count)
ip_room Three (V6 octets) fit = omega (arith, fit.count)

addr_room : (v : Version) (addr : Addr) → IsAddr v addr → length (spelled_addr v addr) ≤ 19
addr_room v addr fit =
    let port : length (to_be_bytes w16 addr.port) ≡ 2 = refl in
    omega (arith, ip_room v addr.ip fit.ip, port, length-append (spelled_ip v addr.ip) (to_be_bytes w16 addr.port))

number_room : (n : ℕ) → length (spelled_number n) ≡ 4
number_room n = refl

body_room : (v : Version) (sender : List ℕ) (body : Body) → IsBody v body → length (spelled_body v sender body) ≤ 56
body_room v sender (Ping number target) fit =
    omega (arith, number_room number, name_room target fit.1, length-append (spelled_number number) (spelled_name target))
body_room v sender (PingReq number target addr) fit =
    omega (arith, number_room number, name_room target fit.1, addr_room v addr fit.2, length-append (spelled_name target) (spelled_addr v addr), length-append (spelled_number number) (spelled_name target ++ spelled_addr v addr))
body_room v sender (Ack number receiver) fit =
    omega (arith, number_room number, receiver_room v sender receiver fit.1, length-append (spelled_number number) (spelled_receiver v sender receiver))
body_room v sender (Nack number receiver) fit =
    omega (arith, number_room number, receiver_room v sender receiver fit.1, length-append (spelled_number number) (spelled_receiver v sender receiver))
body_room v sender (Pull after) fit = omega (arith, or_none_room after fit)
body_room v sender Page fit = omega arith
body_room v sender Gossip fit = omega arith

accuser_room : (v : Version) (status : Status) → IsStatus v status → length (spelled_accuser status) ≤ 33
accuser_room v Alive fit = omega arith
accuser_room v (Suspect accuser) fit = name_room accuser fit
accuser_room v Failed fit = omega arith
accuser_room v Left fit = omega arith

claim_room : (v : Version) (c : Claim) → IsClaim v c → length (spelled_claim v c) ≤ 90
claim_room v c fit =
    let accuser = spelled_accuser c.status in
    let behind_addr = spelled_number c.incarnation ++ accuser in
    let behind_name = spelled_addr v c.addr ++ behind_addr in
    omega (
      arith,
      number_room c.incarnation,
      name_room c.name fit.name,
      addr_room v c.addr fit.addr,
      accuser_room v c.status fit.status,
      length-append (spelled_number c.incarnation) accuser,
      length-append (spelled_addr v c.addr) behind_addr,
      length-append (spelled_name c.name) behind_name,
    )

claims_room : (v : Version) (cs : List Claim) → AllByRecursion (IsClaim v) cs → length (flat_map (spelled_claim v) cs) ≤ 90 * length cs
claims_room v [] fit = omega arith
claims_room v (c ∷ cs) fit =
    omega (arith, claim_room v c fit.0, claims_room v cs fit.1, ap length (flat_map-cons (spelled_claim v) c cs), length-append (spelled_claim v c) (flat_map (spelled_claim v) cs))

version_room : (v : Version) → most_claims_of v ≤ 12
version_room One = omega arith
version_room Two = omega arith
version_room Three = omega arith

all_claims_room : (v : Version) (cs : List Claim) → AreClaims v cs → length (spelled_claims v cs) ≤ 1081
all_claims_room v cs fit =
    let told : take (most_claims_of v) cs ≡ cs = take_all (most_claims_of v) cs fit.few in
    rw told (omega (arith, claims_room v cs fit.each, fit.few, version_room v))

-- a packet's spelling has at most 1,207 bytes
pub packet_room : (p : Packet) → IsPacket p → length (spelling p) ≤ 1207
unfolding spelling
packet_room p fit =
    let v = p.version in
    let claims = spelled_claims v p.claims.items in
    let body = spelled_body v p.sender p.body in
    omega (
      arith,
      group_room v p.group fit.group,
      name_room p.sender fit.sender,
      body_room v p.sender p.body fit.body,
      all_claims_room v p.claims.items fit.claims,
      length-append body claims,
      length-append (spelled_name p.sender) (body ++ claims),
      length-append (spelled_group v p.group) (spelled_name p.sender ++ (body ++ claims)),
    )
