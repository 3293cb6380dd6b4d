-- What the fields of a recording are, and the one spelling of each (the format is this project's choice). Names, and
-- names that may be missing, are spelled as in packets: spelled_name and spelled_or_none of lg_packet. So are numbers
-- of four bytes: spelled_number.
use Rattle.std.specs.Prelude.{ℕ, zero, suc, ◌+◌, ◌/◌, ◌%◌, ◌^◌, ◌<◌, ◌≤◌, nat_lt, if◌then◌else◌}
use Rattle.std.specs.Prelude.{Bool, true, false, IsTrue, List, [], ◌∷◌, ◌++◌, length, map, take, None}
use Rattle.std.specs.List.{flat_map, AllByRecursion}
use Rattle.sha2.specs.Sha256.{sha256}
use Rattle.lg_rules.specs.Meaning.Name.{is_name}
use Rattle.lg_rules.specs.declared.addr.Addr.{Addr}
use Rattle.lg_rules.specs.declared.claim.Claim.{Claim}
use Rattle.lg_rules.specs.declared.version.Version.TheVariants.{Three}
use Rattle.lg_timing.specs.declared.config.Config.{Config}
use Rattle.lg_timing.specs.declared.config.Seed.{Seed}
use Rattle.lg_timing.specs.Meaning.Bounds.{most_seeds}
use Rattle.lg_timing.specs.Meaning.Keys.{keys, number_of_key}
use Rattle.lg_packet.specs.declared.packet.Body.TheVariants.{Page}
use Rattle.lg_packet.specs.declared.packet.Packet.{Packet}
use Rattle.lg_packet.specs.Meaning.Spelling.{AreClaims, IsAddr, IsNameIfAny, IsPacket}
use Rattle.lg_packet.specs.Meaning.Spelling.{spellable, spelled_addr, spelled_name, spelled_or_none, spelling}

-- ---- numbers

-- A number in at most this many bytes before its last one: 7 bits a byte, the least first. Each byte but the last has
-- 128 added. There is no more than one byte for each 7 bits that it needs (unsigned LEB128, the least form).
unfoldable pub spelled_digits : ℕ → ℕ → List ℕ
spelled_digits zero n = n ∷ []
spelled_digits (suc more) n = if nat_lt n 128 then n ∷ [] else (128 + n % 128) ∷ spelled_digits more (n / 128)

-- a number, which has at most ten bytes, since it is below 2^64
unfoldable pub spelled_count : ℕ → List ℕ
spelled_count n = spelled_digits 9 n

abbrev pub IsCount : ℕ → Type 0
IsCount n = n < 2 ^ 64

-- ---- flags, texts and addresses

-- a flag: 1 if it is set, or else 0
abbrev pub spelled_flag : Bool → List ℕ
spelled_flag false = 0 ∷ []
spelled_flag true = 1 ∷ []

-- a text: how many bytes it has, and then these
abbrev pub spelled_text : List ℕ → List ℕ
spelled_text text = spelled_count (length text) ++ text

abbrev pub IsCountedText : List ℕ → Type 0
IsCountedText text = IsCount (length text)

-- an address, as packets of version three spell it
abbrev pub spelled_place : Addr → List ℕ
spelled_place addr = spelled_addr Three addr

abbrev pub IsPlace : Addr → Type 0
IsPlace addr = IsAddr Three addr

-- ---- packets and records

-- a packet: how many bytes its spelling has, and then this
abbrev pub spelled_told : Packet → List ℕ
spelled_told p = spelled_text (spelling p)

-- what a packet is told as has a spelling of its own
abbrev pub IsTellable : Packet → Type 0
IsTellable p = IsPacket (spellable p)

-- the name of the first of some records
abbrev pub first_name : List Claim → List ℕ
first_name [] = []
first_name (c ∷ cs) = c.name

-- records as one packet: a Page of version three without a group, from the member of the first record
abbrev pub records_page : List Claim → Packet
records_page rows =
    record {
      version = Three;
      group = None;
      sender = first_name rows;
      body = Page;
      claims = record { items = rows };
    }

-- records, at most twelve: the number 0 if there are none, or else that packet
abbrev pub spelled_records : List Claim → List ℕ
spelled_records [] = spelled_count 0
spelled_records (c ∷ cs) = spelled_told (records_page (c ∷ cs))

abbrev pub AreRecords : List Claim → Type 0
AreRecords rows = AreClaims Three rows

-- ---- configurations

-- the numbers of a configuration, in the order of the keys
abbrev pub spelled_numbers : Config → List ℕ
spelled_numbers c = flat_map (λ key. spelled_count (number_of_key key c)) keys

-- a member that is known from the start: its name and its address
abbrev pub spelled_seed : Seed → List ℕ
spelled_seed s = spelled_name s.name ++ spelled_place s.addr

-- how many such members there are, and then these
abbrev pub spelled_seeds : List Seed → List ℕ
spelled_seeds seeds = spelled_count (length seeds) ++ flat_map spelled_seed seeds

-- a configuration: its numbers, its name, its address, its group and its seeds
unfoldable pub spelled_config : Config → List ℕ
spelled_config c =
    spelled_numbers c
    ++ (spelled_name c.name ++ (spelled_place c.addr ++ (spelled_or_none c.group ++ spelled_seeds c.seeds.items)))

pub record IsSeedSpelled (s : Seed) : Type 0 where
  pub name : IsTrue (is_name s.name)
  pub addr : IsPlace s.addr

pub record IsConfigSpelled (c : Config) : Type 0 where
  pub numbers : AllByRecursion IsCount (map (λ key. number_of_key key c) keys)
  pub name : IsTrue (is_name c.name)
  pub addr : IsPlace c.addr
  pub group : IsNameIfAny c.group
  pub few : length c.seeds.items ≤ most_seeds
  pub seeds : AllByRecursion IsSeedSpelled c.seeds.items

-- ---- chunks

-- how many bytes of a digest a chunk has
abbrev pub check_bytes : ℕ
check_bytes = 4

-- the bytes by which a chunk's body is checked: the first of its SHA-256
abbrev pub check_of_body : List ℕ → List ℕ
check_of_body body = take check_bytes (sha256 body)

-- a chunk: its body as a text, and the bytes by which it is checked
unfoldable pub chunk : List ℕ → List ℕ
chunk body = spelled_text body ++ check_of_body body
