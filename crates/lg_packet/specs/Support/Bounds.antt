-- The bytes that a packet begins with are those of the definitions. The greatest length of a packet is the sum of the
-- greatest lengths of its parts.
use Rattle.std.specs.Prelude.{◌≡◌, ℕ, ◌+◌, ◌*◌, refl}
use Rattle.lg_rules.specs.Meaning.Bounds.{most_name_bytes, most_claims}
use Rattle.lg_packet.specs.Meaning.Bytes.{first_magic, second_magic}
use Rattle.lg_packet.specs.declared.kind.TheConstants.{FIRST_MAGIC, SECOND_MAGIC}
use Rattle.lg_packet.specs.declared.writing.TheConstants.{BODY_ROOM, MAX_PACKET}

first_magic-is : FIRST_MAGIC ≡ first_magic
first_magic-is = refl

second_magic-is : SECOND_MAGIC ≡ second_magic
second_magic-is = refl

-- the most bytes of a name with its length, of an IP address with its family, and of that with its port
abbrev pub name_room : ℕ
name_room = 1 + most_name_bytes

abbrev pub ip_room : ℕ
ip_room = 1 + 16

abbrev pub addr_room : ℕ
addr_room = ip_room + 2

-- the bytes of the head, and of a number or an incarnation
abbrev pub head_room : ℕ
head_room = 4

abbrev pub number_room : ℕ
number_room = 4

-- the most bytes of a body, those of a PingReq: its number, target and address
abbrev pub body_room : ℕ
body_room = number_room + name_room + addr_room

body_room-is : BODY_ROOM ≡ body_room
body_room-is = refl

-- the most bytes of a claim: its kind, name, address, incarnation and accuser
abbrev pub claim_room : ℕ
claim_room = 1 + name_room + addr_room + number_room + name_room

-- the most bytes of the claims with their count
abbrev pub claims_room : ℕ
claims_room = 1 + most_claims * claim_room

-- the most bytes of a packet: its head, its group, the sender's name, a body, and the claims with their count
packet_room-is : MAX_PACKET ≡ head_room + name_room + name_room + body_room + claims_room
packet_room-is = refl

-- the same in numbers, whose sum is 1207
packet_room-sum : MAX_PACKET ≡ 4 + 33 + 33 + 56 + 1081
packet_room-sum = refl
