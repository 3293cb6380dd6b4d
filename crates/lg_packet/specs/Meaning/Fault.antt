-- What is wrong with bytes that are no packet, by their places: the fault of the first byte that can't stand in its
-- place. A front is a beginning of some bytes.
use Rattle.std.specs.Prelude.{◌≡◌, ◌≤◌, ℕ, Bool, true, ◌&&◌, ◌||◌}
use Rattle.std.specs.Prelude.{nat_lt, nat_le, ◌==◌, if◌then◌else◌}
use Rattle.std.specs.Prelude.{List, [], ◌∷◌, ◌++◌, length, take, replicate, Option, Some, None, unwrap_or}
use Rattle.std.specs.Int.{w32, from_be_bytes}
use Rattle.lg_rules.specs.Meaning.Name.{is_name_byte}
use Rattle.lg_rules.specs.Meaning.Bounds.{greatest_incarnation, most_name_bytes}
use Rattle.lg_packet.specs.Meaning.Bytes.{first_magic, second_magic}
use Rattle.lg_packet.specs.declared.fault.Fault.{Fault}
use Rattle.lg_packet.specs.declared.fault.Fault.TheVariants as faults

-- What can be due at a place. If what can stand there depends on the version, the part has the version byte.
-- MaybeLengthByte is the length of a name that may be missing, and is 0 if it is: the group, and the name of a Pull.
-- IncarnationByte has those bytes of the incarnation that are there already.
pub data Part : Type 0 where
  MagicByte : ℕ → Part
  VersionByte : Part
  KindByte : ℕ → Part
  LengthByte : Part
  MaybeLengthByte : Part
  NameByte : Part
  NumberByte : Part
  FamilyByte : Part
  CountByte : ℕ → Part
  ClaimKindByte : ℕ → Part
  IncarnationByte : List ℕ → Part

-- of the version that a byte stands for: the greatest kind of a packet, the most claims, the greatest kind of a claim
abbrev pub most_kind : ℕ → ℕ
most_kind version = if version == 3 then 7 else 6

abbrev pub most_count : ℕ → ℕ
most_count version = if version == 3 then 12 else 6

abbrev pub most_claim_kind : ℕ → ℕ
most_claim_kind version = if version == 3 then 4 else 3

-- whether a byte can stand at a place where this is due
abbrev pub is_allowed : Part → ℕ → Bool
is_allowed (MagicByte magic) b = b == magic
is_allowed VersionByte b = nat_le 1 b && nat_le b 3
is_allowed (KindByte version) b = nat_le 1 b && nat_le b (most_kind version)
is_allowed LengthByte b = nat_le 1 b && nat_le b most_name_bytes
is_allowed MaybeLengthByte b = nat_le b most_name_bytes
is_allowed NameByte b = is_name_byte b
is_allowed NumberByte b = true
is_allowed FamilyByte b = b == 4 || b == 6
is_allowed (CountByte version) b = nat_le b (most_count version)
is_allowed (ClaimKindByte version) b = nat_le 1 b && nat_le b (most_claim_kind version)
is_allowed (IncarnationByte before) b =
    nat_lt (length before) 3 || nat_le (from_be_bytes w32 (before ++ b ∷ [])) greatest_incarnation

-- the fault of a byte that can't stand there (each byte of a number can)
abbrev pub fault_at : Part → Fault
fault_at (MagicByte magic) = faults.Magic
fault_at VersionByte = faults.Version
fault_at (KindByte version) = faults.Kind
fault_at LengthByte = faults.Name
fault_at MaybeLengthByte = faults.Name
fault_at NameByte = faults.Name
fault_at NumberByte = faults.Short
fault_at FamilyByte = faults.Family
fault_at (CountByte version) = faults.Count
fault_at (ClaimKindByte version) = faults.ClaimKind
fault_at (IncarnationByte before) = faults.Incarnation

-- what is due of a number, of an address, of a group, of a receiver, and of the body of a packet of this kind
abbrev pub number_parts : List Part
number_parts = replicate 4 NumberByte

abbrev pub addr_parts : ℕ → List Part
addr_parts version = if version == 3 then FamilyByte ∷ NumberByte ∷ NumberByte ∷ [] else replicate 6 NumberByte

abbrev pub group_parts : ℕ → List Part
group_parts version = if version == 3 then MaybeLengthByte ∷ [] else []

abbrev pub receiver_parts : ℕ → List Part
receiver_parts version = if version == 3 then LengthByte ∷ [] else []

abbrev pub body_parts : ℕ → ℕ → List Part
body_parts version kind =
    if kind == 1 then number_parts ++ LengthByte ∷ []
    else if kind == 2 then number_parts ++ LengthByte ∷ addr_parts version
    else if kind == 5 then MaybeLengthByte ∷ []
    else if nat_lt 5 kind then [] else number_parts ++ receiver_parts version

-- What is due of a claim after its kind. Of a Suspect, the accuser comes last.
abbrev pub accuser_parts : ℕ → List Part
accuser_parts kind = if kind == 2 then LengthByte ∷ [] else []

abbrev pub claim_parts : ℕ → ℕ → List Part
claim_parts version kind = LengthByte ∷ addr_parts version ++ IncarnationByte [] ∷ accuser_parts kind

-- what a byte makes due right after it, as the length of a name makes its bytes due
abbrev pub brought : Part → ℕ → List Part
brought VersionByte version = KindByte version ∷ []
brought (KindByte version) kind =
    group_parts version ++ LengthByte ∷ body_parts version kind ++ CountByte version ∷ []
brought LengthByte n = replicate n NameByte
brought MaybeLengthByte n = replicate n NameByte
brought FamilyByte family = replicate (if family == 4 then 4 else 16) NumberByte
brought (CountByte version) n = replicate n (ClaimKindByte version)
brought (ClaimKindByte version) kind = claim_parts version kind
brought (IncarnationByte before) b =
    if nat_lt (length before) 3 then IncarnationByte (before ++ b ∷ []) ∷ [] else []
brought _ b = []

-- what is due at the beginning of a packet
abbrev pub packet_parts : List Part
packet_parts = MagicByte first_magic ∷ MagicByte second_magic ∷ VersionByte ∷ []

-- what is still due after one more byte, and after a front
abbrev pub due_behind : List Part → ℕ → List Part
due_behind [] b = []
due_behind (part ∷ parts) b = brought part b ++ parts

abbrev pub due_after : List Part → List ℕ → List Part
due_after parts [] = parts
due_after parts (b ∷ front) = due_after (due_behind parts b) front

-- the fault of a byte, if it can't stand at a place where these parts are due
abbrev pub fault_of_byte : List Part → ℕ → Option Fault
fault_of_byte [] b = Some faults.Trailing
fault_of_byte (part ∷ parts) b = if is_allowed part b then None else Some (fault_at part)

-- the fault of the byte after a front, if it can't stand there
unfoldable pub fault_behind : List ℕ → ℕ → Option Fault
fault_behind front b = fault_of_byte (due_after packet_parts front) b

-- of the bytes after a front, the fault of the first that can't stand in its place, or Short if each can
unfoldable pub first_fault : List ℕ → List ℕ → Fault
first_fault front [] = faults.Short
first_fault front (b ∷ bytes) = unwrap_or (fault_behind front b) (first_fault (front ++ b ∷ []) bytes)

unfoldable pub fault_of : List ℕ → Fault
fault_of bytes = first_fault [] bytes

-- each byte of a front can stand in its place
abbrev pub Stands : List ℕ → Type 0
Stands front =
    (before after : List ℕ) (b : ℕ) → before ++ b ∷ after ≡ front → fault_behind before b ≡ None

-- the bytes of an incarnation that are there, if the next byte that is due belongs to one
abbrev pub begun_incarnation : List Part → List ℕ
begun_incarnation (IncarnationByte before ∷ parts) = before
begun_incarnation _ = []

-- the least number of four bytes that begins with these bytes
abbrev pub least_number : List ℕ → ℕ
least_number before = from_be_bytes w32 (take 4 (before ++ replicate 4 0))

-- An incarnation that the front ends in can still be at most the greatest one. An incarnation is judged at its fourth
-- byte only. So the first three bytes of one that is too great can stand, and then no fourth byte can.
abbrev pub IncarnationFits : List ℕ → Type 0
IncarnationFits front = least_number (begun_incarnation (due_after packet_parts front)) ≤ greatest_incarnation
