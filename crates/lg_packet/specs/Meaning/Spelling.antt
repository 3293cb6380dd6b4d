-- What packets are, and the one spelling of each, which is its bytes (the formats are this project's choice).
use Rattle.std.specs.Prelude.{◌≡◌, ℕ, ◌<◌, ◌≤◌, ◌^◌, IsTrue}
use Rattle.std.specs.Prelude.{List, [], ◌∷◌, ◌++◌, length, map, take, Option, Some, None}
use Rattle.std.specs.Int.{w16, w32, to_be_bytes}
use Rattle.std.specs.List.{flat_map, AllByRecursion}
use Rattle.lg_rules.specs.Meaning.Name.{is_name}
use Rattle.lg_rules.specs.declared.addr.Addr.{Addr}
use Rattle.lg_rules.specs.declared.addr.Ip.{Ip}
use Rattle.lg_rules.specs.declared.addr.Ip.TheVariants.{V4, V6}
use Rattle.lg_rules.specs.declared.claim.Claim.{Claim}
use Rattle.lg_rules.specs.declared.claim.Status.{Status}
use Rattle.lg_rules.specs.declared.claim.Status.TheVariants.{Alive, Suspect, Failed, Left}
use Rattle.lg_rules.specs.declared.version.Version.{Version}
use Rattle.lg_rules.specs.declared.version.Version.TheVariants as versions
use Rattle.lg_rules.specs.Meaning.Bounds.{greatest_incarnation}
use Rattle.lg_rules.specs.Meaning.Version.{most_claims_of}
use Rattle.lg_packet.specs.Meaning.Bytes.{IsByte, first_magic, second_magic}
use Rattle.lg_packet.specs.declared.kind.ClaimKind.{ClaimKind}
use Rattle.lg_packet.specs.declared.kind.ClaimKind.TheVariants as claims
use Rattle.lg_packet.specs.declared.kind.Kind.{Kind}
use Rattle.lg_packet.specs.declared.kind.Kind.TheVariants as kinds
use Rattle.lg_packet.specs.declared.packet.Body.{Body}
use Rattle.lg_packet.specs.declared.packet.Body.TheVariants.{Ping, PingReq, Ack, Nack, Pull, Page, Gossip}
use Rattle.lg_packet.specs.declared.packet.Packet.{Packet}

-- the kind of a body; versions one and two have no Gossip, which is told as a Page
abbrev pub kind_of : Version → Body → Kind
kind_of v (Ping number target) = kinds.Ping
kind_of v (PingReq number target addr) = kinds.PingReq
kind_of v (Ack number receiver) = kinds.Ack
kind_of v (Nack number receiver) = kinds.Nack
kind_of v (Pull after) = kinds.Pull
kind_of v Page = kinds.Page
kind_of versions.One Gossip = kinds.Page
kind_of versions.Two Gossip = kinds.Page
kind_of versions.Three Gossip = kinds.Gossip

-- the byte that stands for a version
abbrev pub byte_of_version : Version → ℕ
byte_of_version versions.One = 1
byte_of_version versions.Two = 2
byte_of_version versions.Three = 3

-- the byte that stands for a kind
abbrev pub byte_of_kind : Kind → ℕ
byte_of_kind kinds.Ping = 1
byte_of_kind kinds.PingReq = 2
byte_of_kind kinds.Ack = 3
byte_of_kind kinds.Nack = 4
byte_of_kind kinds.Pull = 5
byte_of_kind kinds.Page = 6
byte_of_kind kinds.Gossip = 7

-- the kind of a claim with this status; versions one and two tell Left as Failed
abbrev pub claim_kind_of : Version → Status → ClaimKind
claim_kind_of v Alive = claims.Alive
claim_kind_of v (Suspect accuser) = claims.Suspect
claim_kind_of v Failed = claims.Failed
claim_kind_of versions.One Left = claims.Failed
claim_kind_of versions.Two Left = claims.Failed
claim_kind_of versions.Three Left = claims.Left

abbrev pub byte_of_claim_kind : ClaimKind → ℕ
byte_of_claim_kind claims.Alive = 1
byte_of_claim_kind claims.Suspect = 2
byte_of_claim_kind claims.Failed = 3
byte_of_claim_kind claims.Left = 4

-- a name: a byte for its length, and then its bytes
abbrev pub spelled_name : List ℕ → List ℕ
spelled_name name = length name ∷ name

-- a name that may be missing: a length of 0 if it is
abbrev pub spelled_or_none : Option (List ℕ) → List ℕ
spelled_or_none None = 0 ∷ []
spelled_or_none (Some name) = spelled_name name

-- a number, its highest byte first
abbrev pub spelled_number : ℕ → List ℕ
spelled_number number = to_be_bytes w32 number

-- an IP address: in version three a byte for its family and its bytes; else four bytes, and one of sixteen is told as
-- 0.0.0.0
abbrev pub four_of : Ip → List ℕ
four_of (V4 octets) = octets
four_of (V6 octets) = 0 ∷ 0 ∷ 0 ∷ 0 ∷ []

abbrev pub of_family : Ip → List ℕ
of_family (V4 octets) = 4 ∷ octets
of_family (V6 octets) = 6 ∷ octets

abbrev pub spelled_ip : Version → Ip → List ℕ
spelled_ip versions.One ip = four_of ip
spelled_ip versions.Two ip = four_of ip
spelled_ip versions.Three ip = of_family ip

-- an address: its IP address, and its port
abbrev pub spelled_addr : Version → Addr → List ℕ
spelled_addr v addr = spelled_ip v addr.ip ++ to_be_bytes w16 addr.port

-- the group of the sender, which versions one and two don't tell
abbrev pub spelled_group : Version → Option (List ℕ) → List ℕ
spelled_group versions.One group = []
spelled_group versions.Two group = []
spelled_group versions.Three group = spelled_or_none group

-- The receiver of an Ack or a Nack, which versions one and two don't tell. One that has none is told as one for its own
-- sender, so that nobody takes it.
abbrev pub spelled_receiver : Version → List ℕ → Option (List ℕ) → List ℕ
spelled_receiver versions.One sender receiver = []
spelled_receiver versions.Two sender receiver = []
spelled_receiver versions.Three sender None = spelled_name sender
spelled_receiver versions.Three sender (Some receiver) = spelled_name receiver

-- The body of a packet of this sender. A Page and a Gossip have only their claims.
abbrev pub spelled_body : Version → List ℕ → Body → List ℕ
spelled_body v sender (Ping number target) = spelled_number number ++ spelled_name target
spelled_body v sender (PingReq number target addr) =
    spelled_number number ++ (spelled_name target ++ spelled_addr v addr)
spelled_body v sender (Ack number receiver) = spelled_number number ++ spelled_receiver v sender receiver
spelled_body v sender (Nack number receiver) = spelled_number number ++ spelled_receiver v sender receiver
spelled_body v sender (Pull after) = spelled_or_none after
spelled_body v sender Page = []
spelled_body v sender Gossip = []

-- the head: the magic, the version and the kind
abbrev pub spelled_head : Version → Kind → List ℕ
spelled_head version kind = first_magic ∷ second_magic ∷ byte_of_version version ∷ byte_of_kind kind ∷ []

-- the accuser of a status, if there is one
abbrev pub spelled_accuser : Status → List ℕ
spelled_accuser Alive = []
spelled_accuser (Suspect accuser) = spelled_name accuser
spelled_accuser Failed = []
spelled_accuser Left = []

-- a claim: its kind, its name, its address, its incarnation and its accuser
abbrev pub spelled_claim : Version → Claim → List ℕ
spelled_claim v c =
    byte_of_claim_kind (claim_kind_of v c.status)
    ∷ (spelled_name c.name ++ (spelled_addr v c.addr ++ (spelled_number c.incarnation ++ spelled_accuser c.status)))

-- claims: a byte for their count, and then the claims, as many as the version has room for
abbrev pub spelled_claims : Version → List Claim → List ℕ
spelled_claims v cs =
    let told = take (most_claims_of v) cs in
    length told ∷ flat_map (spelled_claim v) told

-- a packet: its head, its group, its sender, its body and its claims
unfoldable pub spelling : Packet → List ℕ
spelling p =
    spelled_head p.version (kind_of p.version p.body)
    ++ (spelled_group p.version p.group
    ++ (spelled_name p.sender
    ++ (spelled_body p.version p.sender p.body ++ spelled_claims p.version p.claims.items)))

-- What has a spelling of its own in a version: names that are names, numbers of four bytes, addresses with a port of
-- two bytes, incarnations of at most `greatest_incarnation`, and no more claims than it has room for. In version three
-- an Ack or a Nack has a receiver. In versions one and two there is no group, no receiver, no Gossip, no address of
-- sixteen bytes and no Left.
pub record AreOctets (n : ℕ) (octets : List ℕ) : Type 0 where
  pub count : length octets ≡ n
  pub bytes : AllByRecursion IsByte octets

abbrev pub IsIp : Version → Ip → Type 0
IsIp v (V4 octets) = AreOctets 4 octets
IsIp versions.One (V6 octets) = ⊥
IsIp versions.Two (V6 octets) = ⊥
IsIp versions.Three (V6 octets) = AreOctets 16 octets

pub record IsAddr (v : Version) (addr : Addr) : Type 0 where
  pub ip : IsIp v addr.ip
  pub port : addr.port < 2 ^ 16

abbrev pub IsNameIfAny : Option (List ℕ) → Type 0
IsNameIfAny None = Unit {0}
IsNameIfAny (Some name) = IsTrue (is_name name)

abbrev pub IsGroup : Version → Option (List ℕ) → Type 0
IsGroup versions.One group = group ≡ None
IsGroup versions.Two group = group ≡ None
IsGroup versions.Three group = IsNameIfAny group

abbrev pub IsName : Option (List ℕ) → Type 0
IsName None = ⊥
IsName (Some name) = IsTrue (is_name name)

abbrev pub IsReceiver : Version → Option (List ℕ) → Type 0
IsReceiver versions.One receiver = receiver ≡ None
IsReceiver versions.Two receiver = receiver ≡ None
IsReceiver versions.Three receiver = IsName receiver

abbrev pub IsBody : Version → Body → Type 0
IsBody v (Ping number target) = (number < 2 ^ 32) × IsTrue (is_name target)
IsBody v (PingReq number target addr) = (number < 2 ^ 32) × IsTrue (is_name target) × IsAddr v addr
IsBody v (Ack number receiver) = (number < 2 ^ 32) × IsReceiver v receiver
IsBody v (Nack number receiver) = (number < 2 ^ 32) × IsReceiver v receiver
IsBody v (Pull after) = IsNameIfAny after
IsBody v Page = Unit {0}
IsBody versions.One Gossip = ⊥
IsBody versions.Two Gossip = ⊥
IsBody versions.Three Gossip = Unit {0}

abbrev pub IsStatus : Version → Status → Type 0
IsStatus v Alive = Unit {0}
IsStatus v (Suspect accuser) = IsTrue (is_name accuser)
IsStatus v Failed = Unit {0}
IsStatus versions.One Left = ⊥
IsStatus versions.Two Left = ⊥
IsStatus versions.Three Left = Unit {0}

pub record IsClaim (v : Version) (c : Claim) : Type 0 where
  pub name : IsTrue (is_name c.name)
  pub addr : IsAddr v c.addr
  pub status : IsStatus v c.status
  pub incarnation : c.incarnation ≤ greatest_incarnation

pub record AreClaims (v : Version) (cs : List Claim) : Type 0 where
  pub few : length cs ≤ most_claims_of v
  pub each : AllByRecursion (IsClaim v) cs

pub record IsPacket (p : Packet) : Type 0 where
  pub group : IsGroup p.version p.group
  pub sender : IsTrue (is_name p.sender)
  pub body : IsBody p.version p.body
  pub claims : AreClaims p.version p.claims.items

-- these bytes spell this packet
abbrev pub Spells : List ℕ → Packet → Type 0
Spells bytes p = IsPacket p × (bytes ≡ spelling p)

-- some spelling begins with these bytes
abbrev pub BeginsSpelling : List ℕ → Type 0
BeginsSpelling front = (p : Packet) × (rest : List ℕ) × Spells (front ++ rest) p

-- What a version can't spell is told as something else that it can. Versions one and two tell no group, no receiver,
-- a Gossip as a Page, an IP address of sixteen bytes as 0.0.0.0, a status Left as Failed, and no claims but the first
-- six. Version three tells an Ack or a Nack without a receiver as one for its own sender. All else is told as it is.
abbrev pub spellable_ip : Version → Ip → Ip
spellable_ip v (V4 octets) = V4 octets
spellable_ip versions.One (V6 octets) = V4 (0 ∷ 0 ∷ 0 ∷ 0 ∷ [])
spellable_ip versions.Two (V6 octets) = V4 (0 ∷ 0 ∷ 0 ∷ 0 ∷ [])
spellable_ip versions.Three (V6 octets) = V6 octets

abbrev pub spellable_addr : Version → Addr → Addr
spellable_addr v addr = record addr { ip = spellable_ip v addr.ip }

abbrev pub spellable_status : Version → Status → Status
spellable_status v Alive = Alive
spellable_status v (Suspect accuser) = Suspect accuser
spellable_status v Failed = Failed
spellable_status versions.One Left = Failed
spellable_status versions.Two Left = Failed
spellable_status versions.Three Left = Left

abbrev pub spellable_claim : Version → Claim → Claim
spellable_claim v c = record c { addr = spellable_addr v c.addr; status = spellable_status v c.status }

abbrev pub spellable_group : Version → Option (List ℕ) → Option (List ℕ)
spellable_group versions.One group = None
spellable_group versions.Two group = None
spellable_group versions.Three group = group

abbrev pub spellable_receiver : Version → List ℕ → Option (List ℕ) → Option (List ℕ)
spellable_receiver versions.One sender receiver = None
spellable_receiver versions.Two sender receiver = None
spellable_receiver versions.Three sender None = Some sender
spellable_receiver versions.Three sender (Some receiver) = Some receiver

abbrev pub spellable_body : Version → List ℕ → Body → Body
spellable_body v sender (Ping number target) = Ping number target
spellable_body v sender (PingReq number target addr) = PingReq number target (spellable_addr v addr)
spellable_body v sender (Ack number receiver) = Ack number (spellable_receiver v sender receiver)
spellable_body v sender (Nack number receiver) = Nack number (spellable_receiver v sender receiver)
spellable_body v sender (Pull after) = Pull after
spellable_body v sender Page = Page
spellable_body versions.One sender Gossip = Page
spellable_body versions.Two sender Gossip = Page
spellable_body versions.Three sender Gossip = Gossip

abbrev pub spellable_claims : Version → List Claim → List Claim
spellable_claims v cs = map (spellable_claim v) (take (most_claims_of v) cs)

abbrev pub spellable : Packet → Packet
spellable p =
    record p {
      group = spellable_group p.version p.group;
      body = spellable_body p.version p.sender p.body;
      claims = record { items = spellable_claims p.version p.claims.items };
    }
