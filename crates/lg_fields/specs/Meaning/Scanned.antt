-- What reading the fields of a recording from left to right gives: their values and the bytes behind, or the first
-- fault that is met. By the laws of src/laws.rt, this is the reverse of Spelled.antt: what is spelled so is read again,
-- and nothing else is read.
use Rattle.std.specs.Prelude.{ℕ, zero, suc, ◌+◌, ◌*◌, ◌%◌, nat_eq, nat_lt, ◌==◌, if◌then◌else◌, ◌&&◌}
use Rattle.std.specs.Prelude.{Bool, true, false, List, [], ◌∷◌, length, take, drop, Option, Some, None, Result, Ok, Err}
use Rattle.std.specs.Cmp.Lexicographic.{pointwise}
use Rattle.std.specs.Int.{w32}
use Rattle.std.specs.Str.{bytes_eq}
use Rattle.lg_rules.specs.declared.addr.Addr.{Addr}
use Rattle.lg_rules.specs.declared.addr.Ip.TheVariants.{V4}
use Rattle.lg_rules.specs.declared.claim.Claim.{Claim}
use Rattle.lg_rules.specs.declared.version.Version.{Version}
use Rattle.lg_rules.specs.declared.version.Version.TheVariants.{One, Two, Three}
use Rattle.lg_timing.specs.declared.config.Config.{Config}
use Rattle.lg_timing.specs.declared.config.Seed.{Seed}
use Rattle.lg_timing.specs.declared.keys.Key.{Key}
use Rattle.lg_timing.specs.Meaning.Bounds.{most_seeds}
use Rattle.lg_timing.specs.Meaning.Keys.{defaults, keys, with_number}
use Rattle.lg_packet.specs.declared.fault.Fault.{Fault}
use Rattle.lg_packet.specs.declared.fault.Fault.TheVariants as faults
use Rattle.lg_packet.specs.declared.packet.Body.{Body}
use Rattle.lg_packet.specs.declared.packet.Body.TheVariants as bodies
use Rattle.lg_packet.specs.declared.packet.Packet.{Packet}
use Rattle.lg_packet.specs.Meaning.Reading.{addr_at, incarnation_at, name_at, name_or_none_at, number_at, packet_of}
use Rattle.lg_fields.specs.declared.fault.FieldFault.{FieldFault}
use Rattle.lg_fields.specs.declared.fault.FieldFault.TheVariants.{Short, Check, Number, Name, Family, Kind, Count}
use Rattle.lg_fields.specs.declared.fault.FieldFault.TheVariants as field
use Rattle.lg_fields.specs.Meaning.Spelled.{check_bytes, check_of_body}

infixl 10 ◌>>=◌
abbrev pub ◌>>=◌ : {A B : Type 0} → Result A FieldFault → (A → Result B FieldFault) → Result B FieldFault
(Ok x) >>= f = f x
(Err e) >>= f = Err e

-- ---- bytes, numbers and flags

-- one byte
abbrev pub byte_scan : List ℕ → Result (ℕ × List ℕ) FieldFault
byte_scan [] = Err Short
byte_scan (b ∷ rest) = Ok (b, rest)

-- a number of at most this many bytes before its last one, behind a byte that has 128 added: such a byte isn't followed
-- by a last byte of 0
abbrev pub digit_before : ℕ → ℕ × List ℕ → Result (ℕ × List ℕ) FieldFault
digit_before b others = if others.0 == 0 then Err Number else Ok (b % 128 + 128 * others.0, others.1)

-- At most this many bytes of a number stand before its last one, which is at most 1 if there are that many: a number of
-- ten bytes is below 2^64 only so.
unfoldable pub digits_scan : ℕ → List ℕ → Result (ℕ × List ℕ) FieldFault
digits_scan zero [] = Err Short
digits_scan zero (b ∷ rest) = if nat_lt 1 b then Err Number else Ok (b, rest)
digits_scan (suc more) [] = Err Short
digits_scan (suc more) (b ∷ rest) =
    if nat_lt b 128 then Ok (b, rest) else (digits_scan more rest >>= digit_before b)

-- a number
unfoldable pub count_scan : List ℕ → Result (ℕ × List ℕ) FieldFault
count_scan bytes = digits_scan 9 bytes

-- a number that is at most this one
unfoldable pub bounded_scan : ℕ → List ℕ → Result (ℕ × List ℕ) FieldFault
bounded_scan most bytes = do
  number ← count_scan bytes
  if nat_lt most number.0 then Err Number else Ok number

-- the last moment, in milliseconds
abbrev pub latest_moment : ℕ
latest_moment = 1000000000000000

abbrev pub moment_scan : List ℕ → Result (ℕ × List ℕ) FieldFault
moment_scan bytes = bounded_scan latest_moment bytes

-- how many of something follow: at most this many
unfoldable pub few_scan : ℕ → List ℕ → Result (ℕ × List ℕ) FieldFault
few_scan most bytes = do
  number ← count_scan bytes
  if nat_lt most number.0 then Err Count else Ok number

-- a flag
abbrev pub flag_scan : List ℕ → Result (Bool × List ℕ) FieldFault
flag_scan [] = Err Short
flag_scan (b ∷ rest) = if b == 0 then Ok (false, rest) else if b == 1 then Ok (true, rest) else Err Kind

-- ---- the fields of packets

-- the fault of a field, by that of a packet
abbrev pub field_fault : Fault → FieldFault
field_fault faults.Short = Short
field_fault faults.Magic = field.Packet
field_fault faults.Version = field.Packet
field_fault faults.Kind = field.Packet
field_fault faults.Name = Name
field_fault faults.Count = field.Packet
field_fault faults.ClaimKind = field.Packet
field_fault faults.Incarnation = field.Incarnation
field_fault faults.Trailing = field.Packet
field_fault faults.Family = Family

-- what reading a field of packets gives, with that fault
abbrev pub as_field : {A : Type 0} → Result A Fault → Result A FieldFault
as_field (Ok x) = Ok x
as_field (Err f) = Err (field_fault f)

-- a name, a name that may be missing, four bytes as a number, an incarnation, and an address
abbrev pub label_scan : List ℕ → Result (List ℕ × List ℕ) FieldFault
label_scan bytes = as_field (name_at bytes)

abbrev pub maybe_label_scan : List ℕ → Result (Option (List ℕ) × List ℕ) FieldFault
maybe_label_scan bytes = as_field (name_or_none_at bytes)

abbrev pub word_scan : List ℕ → Result (ℕ × List ℕ) FieldFault
word_scan bytes = as_field (number_at w32 bytes)

abbrev pub incarnation_scan : List ℕ → Result (ℕ × List ℕ) FieldFault
incarnation_scan bytes = as_field (incarnation_at bytes)

abbrev pub place_scan : List ℕ → Result (Addr × List ℕ) FieldFault
place_scan bytes = as_field (addr_at Three bytes)

-- ---- texts, packets and records

-- the first n bytes, and those behind them
abbrev pub split_scan : ℕ → List ℕ → Result (List ℕ × List ℕ) FieldFault
split_scan n bytes = if nat_lt (length bytes) n then Err Short else Ok (take n bytes, drop n bytes)

-- a text: how many bytes it has, and then these
unfoldable pub text_scan : List ℕ → Result (List ℕ × List ℕ) FieldFault
text_scan bytes = do
  number ← count_scan bytes
  split_scan number.0 number.1

-- all of these bytes as a packet: whatever is wrong with it is one fault here
abbrev pub only_packet : Result Packet Fault → Result Packet FieldFault
only_packet (Ok p) = Ok p
only_packet (Err f) = Err field.Packet

abbrev pub told_in : List ℕ → Result Packet FieldFault
told_in bytes = only_packet (packet_of bytes)

-- a packet behind the number of its bytes
unfoldable pub told_scan : List ℕ → Result (Packet × List ℕ) FieldFault
told_scan bytes = do
  text ← text_scan bytes
  packet ← told_in text.0
  Ok (packet, text.1)

-- Whether a packet is the Page of its own claims as records: of version three, without a group, from the member of the
-- first of them.
abbrev pub is_version_three : Version → Bool
is_version_three One = false
is_version_three Two = false
is_version_three Three = true

abbrev pub is_page_body : Body → Bool
is_page_body (bodies.Ping number target) = false
is_page_body (bodies.PingReq number target addr) = false
is_page_body (bodies.Ack number receiver) = false
is_page_body (bodies.Nack number receiver) = false
is_page_body (bodies.Pull after) = false
is_page_body bodies.Page = true
is_page_body bodies.Gossip = false

abbrev pub has_no_group : Option (List ℕ) → Bool
has_no_group None = true
has_no_group (Some group) = false

abbrev pub is_of_first : List ℕ → List Claim → Bool
is_of_first sender [] = false
is_of_first sender (c ∷ cs) = pointwise nat_eq sender c.name

abbrev pub is_records_page : Packet → Bool
is_records_page p =
    is_version_three p.version
    && (has_no_group p.group && (is_page_body p.body && is_of_first p.sender p.claims.items))

-- the records of a packet, if it is their Page
abbrev pub records_of_page : Packet → Result (List Claim) FieldFault
records_of_page p = if is_records_page p then Ok p.claims.items else Err field.Packet

-- the records that are all of these bytes: none, or those of a packet
abbrev pub records_in : List ℕ → Result (List Claim) FieldFault
records_in [] = Ok []
records_in (b ∷ bytes) = told_in (b ∷ bytes) >>= records_of_page

unfoldable pub records_scan : List ℕ → Result (List Claim × List ℕ) FieldFault
records_scan bytes = do
  text ← text_scan bytes
  rows ← records_in text.0
  Ok (rows, text.1)

-- ---- configurations

-- the numbers of these keys, in order, each set in the configuration
unfoldable pub numbers_scan : List Key → Config → List ℕ → Result (Config × List ℕ) FieldFault
numbers_scan [] c bytes = Ok (c, bytes)
numbers_scan (key ∷ others) c bytes = do
  number ← count_scan bytes
  numbers_scan others (with_number key number.0 c) number.1

-- a seed: its name and its address
unfoldable pub seed_scan : List ℕ → Result (Seed × List ℕ) FieldFault
seed_scan bytes = do
  name ← label_scan bytes
  addr ← place_scan name.1
  Ok (record { name = name.0; addr = addr.0 }, addr.1)

-- n seeds
unfoldable pub seeds_scan : ℕ → List ℕ → Result (List Seed × List ℕ) FieldFault
seeds_scan zero bytes = Ok ([], bytes)
seeds_scan (suc n) bytes = do
  first ← seed_scan bytes
  others ← seeds_scan n first.1
  Ok (first.0 ∷ others.0, others.1)

-- what a configuration is before it is read; each of its parts is replaced
abbrev pub blank_config : Config
blank_config = defaults (97 ∷ []) (record { ip = V4 (0 ∷ 0 ∷ 0 ∷ 0 ∷ []); port = 0 })

unfoldable pub config_scan : List ℕ → Result (Config × List ℕ) FieldFault
config_scan bytes = do
  numbers ← numbers_scan keys blank_config bytes
  name ← label_scan numbers.1
  addr ← place_scan name.1
  group ← maybe_label_scan addr.1
  count ← few_scan most_seeds group.1
  seeds ← seeds_scan count.0 count.1
  Ok (
    record numbers.0 { name = name.0; addr = addr.0; group = group.0; seeds = record { items = seeds.0 } },
    seeds.1,
  )

-- ---- chunks

-- the bytes by which this body is checked
abbrev pub check_scan : List ℕ → List ℕ → Result (List ℕ × List ℕ) FieldFault
check_scan body bytes = do
  check ← split_scan check_bytes bytes
  if bytes_eq check.0 (check_of_body body) then Ok (body, check.1) else Err Check

-- a chunk's body, once the chunk is there whole and its digest is that of the body
unfoldable pub chunk_scan : List ℕ → Result (List ℕ × List ℕ) FieldFault
chunk_scan bytes = do
  body ← text_scan bytes
  check_scan body.0 body.1
