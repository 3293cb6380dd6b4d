-- What reading the fields of a packet from left to right gives: their values, or the first fault that is met. To
-- believe packet_of, at the end, nothing here need be read. By the law one_reading of src/laws.rt, packet_of gives
-- what bytes decode to, as Decoding.antt says it, and they decode to nothing else.
use Rattle.std.specs.Prelude.{ℕ, zero, suc, nat_lt, ◌==◌, if◌then◌else◌}
use Rattle.std.specs.Prelude.{List, [], ◌∷◌, length, take, drop, Option, Some, None, Result, Ok, Err}
use Rattle.std.specs.List.{list_all}
use Rattle.std.specs.Int.{Width, w16, w32, byte_len, from_be_bytes}
use Rattle.lg_rules.specs.Meaning.Name.{is_name_byte}
use Rattle.lg_rules.specs.declared.addr.Addr.{Addr}
use Rattle.lg_rules.specs.declared.addr.Ip.{Ip}
use Rattle.lg_rules.specs.declared.addr.Ip.TheVariants.{V4, V6}
use Rattle.lg_rules.specs.declared.claim.Claim.{Claim}
use Rattle.lg_rules.specs.declared.claim.Status.{Status}
use Rattle.lg_rules.specs.declared.claim.Status.TheVariants.{Alive, Suspect, Failed, Left}
use Rattle.lg_rules.specs.declared.version.Version.{Version}
use Rattle.lg_rules.specs.declared.version.Version.TheVariants as versions
use Rattle.lg_rules.specs.Meaning.Bounds.{greatest_incarnation, most_name_bytes}
use Rattle.lg_rules.specs.Meaning.Version.{most_claims_of}
use Rattle.lg_packet.specs.Meaning.Bytes.{first_magic, second_magic}
use Rattle.lg_packet.specs.declared.fault.Fault.{Fault}
use Rattle.lg_packet.specs.declared.fault.Fault.TheVariants as faults
use Rattle.lg_packet.specs.declared.kind.ClaimKind.{ClaimKind}
use Rattle.lg_packet.specs.declared.kind.ClaimKind.TheVariants as claims
use Rattle.lg_packet.specs.declared.kind.Kind.{Kind}
use Rattle.lg_packet.specs.declared.kind.Kind.TheVariants as kinds
use Rattle.lg_packet.specs.declared.packet.Body.{Body}
use Rattle.lg_packet.specs.declared.packet.Body.TheVariants.{Ping, PingReq, Ack, Nack, Pull, Page, Gossip}
use Rattle.lg_packet.specs.declared.packet.Packet.{Packet}

infixl 10 ◌>>=◌
abbrev pub ◌>>=◌ : {A B : Type 0} → Result A Fault → (A → Result B Fault) → Result B Fault
(Ok x) >>= f = f x
(Err e) >>= f = Err e

-- A field is read as its value and the bytes after it. This field is one byte of the magic. It has no value.
abbrev pub magic_at : ℕ → List ℕ → Result (List ℕ) Fault
magic_at due [] = Err faults.Short
magic_at due (b ∷ rest) = if b == due then Ok rest else Err faults.Magic

abbrev pub version_of_byte : ℕ → Option Version
version_of_byte b =
    if b == 1 then Some versions.One
    else if b == 2 then Some versions.Two else if b == 3 then Some versions.Three else None

abbrev pub version_before : List ℕ → Option Version → Result (Version × List ℕ) Fault
version_before rest None = Err faults.Version
version_before rest (Some version) = Ok (version, rest)

abbrev pub version_at : List ℕ → Result (Version × List ℕ) Fault
version_at [] = Err faults.Short
version_at (b ∷ rest) = version_before rest (version_of_byte b)

-- the kind that a byte stands for in a version; Gossip is one of version three alone
abbrev pub seventh_kind : Version → Option Kind
seventh_kind versions.One = None
seventh_kind versions.Two = None
seventh_kind versions.Three = Some kinds.Gossip

abbrev pub kind_of_byte : Version → ℕ → Option Kind
kind_of_byte v b =
    if b == 1 then Some kinds.Ping
    else if b == 2 then Some kinds.PingReq
    else if b == 3 then Some kinds.Ack
    else if b == 4 then Some kinds.Nack
    else if b == 5 then Some kinds.Pull
    else if b == 6 then Some kinds.Page else if b == 7 then seventh_kind v else None

abbrev pub kind_before : List ℕ → Option Kind → Result (Kind × List ℕ) Fault
kind_before rest None = Err faults.Kind
kind_before rest (Some kind) = Ok (kind, rest)

abbrev pub kind_at : Version → List ℕ → Result (Kind × List ℕ) Fault
kind_at v [] = Err faults.Short
kind_at v (b ∷ rest) = kind_before rest (kind_of_byte v b)

-- The n bytes of a name. If some are missing, those that are there are judged first.
abbrev pub name_bytes_at : ℕ → List ℕ → Result (List ℕ × List ℕ) Fault
name_bytes_at n bytes =
    if list_all is_name_byte (take n bytes) then
    (if nat_lt (length bytes) n then Err faults.Short else Ok (take n bytes, drop n bytes))
    else Err faults.Name

unfoldable pub name_at : List ℕ → Result (List ℕ × List ℕ) Fault
name_at [] = Err faults.Short
name_at (n ∷ bytes) =
    if n == 0 then Err faults.Name else if nat_lt most_name_bytes n then Err faults.Name else name_bytes_at n bytes

abbrev pub number_at : Width → List ℕ → Result (ℕ × List ℕ) Fault
number_at w bytes =
    if nat_lt (length bytes) (byte_len w) then Err faults.Short
    else Ok (from_be_bytes w (take (byte_len w) bytes), drop (byte_len w) bytes)

-- n bytes of an address
abbrev pub octets_at : ℕ → List ℕ → Result (List ℕ × List ℕ) Fault
octets_at n bytes = if nat_lt (length bytes) n then Err faults.Short else Ok (take n bytes, drop n bytes)

abbrev pub ipv4_at : List ℕ → Result (Ip × List ℕ) Fault
ipv4_at bytes = do
  octets ← octets_at 4 bytes
  Ok (V4 octets.0, octets.1)

abbrev pub ipv6_at : List ℕ → Result (Ip × List ℕ) Fault
ipv6_at bytes = do
  octets ← octets_at 16 bytes
  Ok (V6 octets.0, octets.1)

-- an IP address behind a byte for its family
abbrev pub of_family_at : List ℕ → Result (Ip × List ℕ) Fault
of_family_at [] = Err faults.Short
of_family_at (b ∷ rest) = if b == 4 then ipv4_at rest else if b == 6 then ipv6_at rest else Err faults.Family

abbrev pub ip_at : Version → List ℕ → Result (Ip × List ℕ) Fault
ip_at versions.One bytes = ipv4_at bytes
ip_at versions.Two bytes = ipv4_at bytes
ip_at versions.Three bytes = of_family_at bytes

unfoldable pub addr_at : Version → List ℕ → Result (Addr × List ℕ) Fault
addr_at v bytes = do
  ip ← ip_at v bytes
  port ← number_at w16 ip.1
  Ok (record { ip = ip.0; port = port.0 }, port.1)

-- a name that is there
unfoldable pub some_name_at : List ℕ → Result (Option (List ℕ) × List ℕ) Fault
some_name_at bytes = do
  name ← name_at bytes
  Ok (Some name.0, name.1)

-- a name, or none if its length is 0
unfoldable pub name_or_none_at : List ℕ → Result (Option (List ℕ) × List ℕ) Fault
name_or_none_at [] = Err faults.Short
name_or_none_at (n ∷ bytes) = if n == 0 then Ok (None, bytes) else some_name_at (n ∷ bytes)

-- the group, of version three alone
abbrev pub group_at : Version → List ℕ → Result (Option (List ℕ) × List ℕ) Fault
group_at versions.One bytes = Ok (None, bytes)
group_at versions.Two bytes = Ok (None, bytes)
group_at versions.Three bytes = name_or_none_at bytes

-- the receiver of an Ack or a Nack, of version three alone
abbrev pub receiver_at : Version → List ℕ → Result (Option (List ℕ) × List ℕ) Fault
receiver_at versions.One bytes = Ok (None, bytes)
receiver_at versions.Two bytes = Ok (None, bytes)
receiver_at versions.Three bytes = some_name_at bytes

-- the magic, the version and the kind
unfoldable pub head_at : List ℕ → Result ((Version × Kind) × List ℕ) Fault
head_at bytes = do
  first ← magic_at first_magic bytes
  second ← magic_at second_magic first
  version ← version_at second
  kind ← kind_at version.0 version.1
  Ok ((version.0, kind.0), kind.1)

unfoldable pub body_at : Version → Kind → List ℕ → Result (Body × List ℕ) Fault
body_at v kinds.Ping bytes = do
  number ← number_at w32 bytes
  target ← name_at number.1
  Ok (Ping number.0 target.0, target.1)
body_at v kinds.PingReq bytes = do
  number ← number_at w32 bytes
  target ← name_at number.1
  addr ← addr_at v target.1
  Ok (PingReq number.0 target.0 addr.0, addr.1)
body_at v kinds.Ack bytes = do
  number ← number_at w32 bytes
  receiver ← receiver_at v number.1
  Ok (Ack number.0 receiver.0, receiver.1)
body_at v kinds.Nack bytes = do
  number ← number_at w32 bytes
  receiver ← receiver_at v number.1
  Ok (Nack number.0 receiver.0, receiver.1)
body_at v kinds.Pull bytes = do
  after ← name_or_none_at bytes
  Ok (Pull after.0, after.1)
body_at v kinds.Page bytes = Ok (Page, bytes)
body_at v kinds.Gossip bytes = Ok (Gossip, bytes)

-- ---- claims

-- an incarnation: all four bytes have to be there before it is judged
unfoldable pub incarnation_at : List ℕ → Result (ℕ × List ℕ) Fault
incarnation_at bytes = do
  number ← number_at w32 bytes
  if nat_lt greatest_incarnation number.0 then Err faults.Incarnation else Ok number

-- the kind of claim that a byte stands for in a version; Left is one of version three alone
abbrev pub fourth_kind : Version → Option ClaimKind
fourth_kind versions.One = None
fourth_kind versions.Two = None
fourth_kind versions.Three = Some claims.Left

abbrev pub claim_kind_of_byte : Version → ℕ → Option ClaimKind
claim_kind_of_byte v b =
    if b == 1 then Some claims.Alive
    else if b == 2 then Some claims.Suspect
    else if b == 3 then Some claims.Failed else if b == 4 then fourth_kind v else None

abbrev pub claim_kind_before : List ℕ → Option ClaimKind → Result (ClaimKind × List ℕ) Fault
claim_kind_before rest None = Err faults.ClaimKind
claim_kind_before rest (Some kind) = Ok (kind, rest)

abbrev pub claim_kind_at : Version → List ℕ → Result (ClaimKind × List ℕ) Fault
claim_kind_at v [] = Err faults.Short
claim_kind_at v (b ∷ rest) = claim_kind_before rest (claim_kind_of_byte v b)

-- the status of a claim of this kind, with the accuser if it has one
unfoldable pub status_at : ClaimKind → List ℕ → Result (Status × List ℕ) Fault
status_at claims.Alive bytes = Ok (Alive, bytes)
status_at claims.Suspect bytes = do
  accuser ← name_at bytes
  Ok (Suspect accuser.0, accuser.1)
status_at claims.Failed bytes = Ok (Failed, bytes)
status_at claims.Left bytes = Ok (Left, bytes)

unfoldable pub claim_at : Version → List ℕ → Result (Claim × List ℕ) Fault
claim_at v bytes = do
  kind ← claim_kind_at v bytes
  name ← name_at kind.1
  addr ← addr_at v name.1
  incarnation ← incarnation_at addr.1
  status ← status_at kind.0 incarnation.1
  Ok (record { name = name.0; addr = addr.0; status = status.0; incarnation = incarnation.0 }, status.1)

abbrev pub count_at : Version → List ℕ → Result (ℕ × List ℕ) Fault
count_at v [] = Err faults.Short
count_at v (n ∷ rest) = if nat_lt (most_claims_of v) n then Err faults.Count else Ok (n, rest)

-- n claims
unfoldable pub claims_at : Version → ℕ → List ℕ → Result (List Claim × List ℕ) Fault
claims_at v zero bytes = Ok ([], bytes)
claims_at v (suc n) bytes = do
  first ← claim_at v bytes
  others ← claims_at v n first.1
  Ok (first.0 ∷ others.0, others.1)

-- ---- the whole

unfoldable pub packet_at : List ℕ → Result (Packet × List ℕ) Fault
packet_at bytes = do
  head ← head_at bytes
  group ← group_at head.0.0 head.1
  sender ← name_at group.1
  body ← body_at head.0.0 head.0.1 sender.1
  count ← count_at head.0.0 body.1
  claims ← claims_at head.0.0 count.0 count.1
  Ok (
    record {
      version = head.0.0;
      group = group.0;
      sender = sender.0;
      body = body.0;
      claims = record { items = claims.0 };
    },
    claims.1,
  )

-- a packet that takes up all of the bytes
unfoldable pub packet_of : List ℕ → Result Packet Fault
packet_of bytes = do
  packet ← packet_at bytes
  if length packet.1 == 0 then Ok packet.0 else Err faults.Trailing
