-- Worked rows: packets with their bytes, and bytes with their faults.
use Rattle.std.specs.Prelude.{◌≡◌, ℕ, List, [], ◌∷◌, ◌++◌}
use Rattle.std.specs.Prelude.{length, replicate, take, Some, None, Ok, Err, refl}
use Rattle.lg_rules.specs.declared.addr.Addr.{Addr}
use Rattle.lg_rules.specs.declared.addr.Ip.TheVariants.{V4}
use Rattle.lg_rules.specs.declared.claim.Claim.{Claim}
use Rattle.lg_rules.specs.declared.claim.Status.TheVariants.{Alive, Suspect}
use Rattle.lg_packet.specs.declared.fault.Fault.{Fault}
use Rattle.lg_packet.specs.declared.fault.Fault.TheVariants as faults
use Rattle.lg_packet.specs.declared.packet.Body.TheVariants.{Ping, PingReq, Ack, Nack, Pull, Page}
use Rattle.lg_packet.specs.declared.packet.Packet.{Packet}
use Rattle.lg_rules.specs.declared.version.Version.TheVariants.{One}
use Rattle.lg_packet.specs.Meaning.Spelling.{spelled_body, spelling}
use Rattle.lg_packet.specs.Meaning.Reading.{name_at, head_at, body_at, claims_at, packet_at, packet_of}
use Rattle.lg_packet.specs.Meaning.Reading.{addr_at, incarnation_at, status_at, claim_at, some_name_at, name_or_none_at}
use Rattle.lg_packet.specs.Meaning.Fault.{fault_of, first_fault, fault_behind}

-- a Ping from a for b, numbered 7
abbrev ping : Packet
ping = record { version = One; group = None; sender = 97 ∷ []; body = Ping 7 (98 ∷ []); claims = record { items = [] } }

abbrev ping_bytes : List ℕ
ping_bytes = 0x53 ∷ 0x4c ∷ 1 ∷ 1 ∷ 1 ∷ 97 ∷ 0 ∷ 0 ∷ 0 ∷ 7 ∷ 1 ∷ 98 ∷ 0 ∷ []

-- an Ack of b, numbered 7
abbrev ack : Packet
ack = record { version = One; group = None; sender = 98 ∷ []; body = Ack 7 None; claims = record { items = [] } }

abbrev ack_bytes : List ℕ
ack_bytes = 0x53 ∷ 0x4c ∷ 1 ∷ 3 ∷ 1 ∷ 98 ∷ 0 ∷ 0 ∷ 0 ∷ 7 ∷ 0 ∷ []

spelled_ping : spelling ping ≡ ping_bytes
unfolding spelling
spelled_ping = refl

spelled_ack : spelling ack ≡ ack_bytes
unfolding spelling
spelled_ack = refl

read_ping : packet_of ping_bytes ≡ Ok ping
unfolding packet_of packet_at head_at name_at body_at claims_at
read_ping = refl

read_ack : packet_of ack_bytes ≡ Ok ack
unfolding packet_of packet_at head_at name_at body_at claims_at
read_ack = refl

-- bytes that are no packet: both reading them and looking at their places give this fault
pub record Fails (bytes : List ℕ) (f : Fault) : Type 0 where
  pub read : packet_of bytes ≡ Err f
  pub placed : fault_of bytes ≡ f

-- no bytes, and the first byte of the magic alone
nothing : Fails [] faults.Short
unfolding packet_of packet_at head_at name_at body_at claims_at fault_of first_fault fault_behind
nothing = record { read = refl; placed = refl }

half_of_the_magic : Fails (0x53 ∷ []) faults.Short
unfolding packet_of packet_at head_at name_at body_at claims_at fault_of first_fault fault_behind
half_of_the_magic = record { read = refl; placed = refl }

-- each byte of the magic is judged on its own
other_first : Fails (0 ∷ []) faults.Magic
unfolding packet_of packet_at head_at name_at body_at claims_at fault_of first_fault fault_behind
other_first = record { read = refl; placed = refl }

other_second : Fails (0x53 ∷ 0 ∷ []) faults.Magic
unfolding packet_of packet_at head_at name_at body_at claims_at fault_of first_fault fault_behind
other_second = record { read = refl; placed = refl }

seventh_kind : Fails (0x53 ∷ 0x4c ∷ 1 ∷ 7 ∷ []) faults.Kind
unfolding packet_of packet_at head_at name_at body_at claims_at fault_of first_fault fault_behind
seventh_kind = record { read = refl; placed = refl }

no_kind : Fails (0x53 ∷ 0x4c ∷ 1 ∷ 0 ∷ []) faults.Kind
unfolding packet_of packet_at head_at name_at body_at claims_at fault_of first_fault fault_behind
no_kind = record { read = refl; placed = refl }

-- the length of a name is judged at once
no_name : Fails (0x53 ∷ 0x4c ∷ 1 ∷ 1 ∷ 0 ∷ []) faults.Name
unfolding packet_of packet_at head_at name_at body_at claims_at fault_of first_fault fault_behind
no_name = record { read = refl; placed = refl }

long_name : Fails (0x53 ∷ 0x4c ∷ 1 ∷ 1 ∷ 0x21 ∷ []) faults.Name
unfolding packet_of packet_at head_at name_at body_at claims_at fault_of first_fault fault_behind
long_name = record { read = refl; placed = refl }

-- a name of three bytes whose third is missing, and whose second is bad, or good
bad_name_byte : Fails (0x53 ∷ 0x4c ∷ 1 ∷ 1 ∷ 3 ∷ 97 ∷ 32 ∷ []) faults.Name
unfolding packet_of packet_at head_at name_at body_at claims_at fault_of first_fault fault_behind
bad_name_byte = record { read = refl; placed = refl }

half_a_name : Fails (0x53 ∷ 0x4c ∷ 1 ∷ 1 ∷ 3 ∷ 97 ∷ 97 ∷ []) faults.Short
unfolding packet_of packet_at head_at name_at body_at claims_at fault_of first_fault fault_behind
half_a_name = record { read = refl; placed = refl }

-- the Ping without its last byte, and with a byte too many
short_ping : Fails (take 12 ping_bytes) faults.Short
unfolding packet_of packet_at head_at name_at body_at claims_at fault_of first_fault fault_behind
short_ping = record { read = refl; placed = refl }

longer_ping :
    Fails
    (0x53 ∷ 0x4c ∷ 1 ∷ 1 ∷ 1 ∷ 97 ∷ 0 ∷ 0 ∷ 0 ∷ 7 ∷ 1 ∷ 98 ∷ 0 ∷ 0 ∷ []) faults.Trailing
unfolding packet_of packet_at head_at name_at body_at claims_at fault_of first_fault fault_behind
longer_ping = record { read = refl; placed = refl }

-- the address 127.0.0.1 with this port
abbrev at_port : ℕ → Addr
at_port port = record { ip = V4 (127 ∷ 0 ∷ 0 ∷ 1 ∷ []); port = port }

-- ---- what a helper is asked, and what it tells

-- a asks a helper to probe c at port 7003, for its own probe numbered 1
abbrev ping_req : Packet
ping_req =
    let asks = PingReq 1 (99 ∷ []) (at_port 7003) in
    record { version = One; group = None; sender = 97 ∷ []; body = asks; claims = record { items = [] } }

abbrev ping_req_bytes : List ℕ
ping_req_bytes =
    0x53 ∷ 0x4c ∷ 1 ∷ 2 ∷ 1 ∷ 97 ∷ 0 ∷ 0 ∷ 0 ∷ 1 ∷ 1 ∷ 99 ∷ 0x7f ∷ 0 ∷ 0 ∷ 1 ∷ 0x1b
    ∷ 0x5b ∷ 0 ∷ []

-- the helper b has no Ack for the probe numbered 1 so far
abbrev nack : Packet
nack = record { version = One; group = None; sender = 98 ∷ []; body = Nack 1 None; claims = record { items = [] } }

abbrev nack_bytes : List ℕ
nack_bytes = 0x53 ∷ 0x4c ∷ 1 ∷ 4 ∷ 1 ∷ 98 ∷ 0 ∷ 0 ∷ 0 ∷ 1 ∷ 0 ∷ []

spelled_ping_req : spelling ping_req ≡ ping_req_bytes
unfolding spelling
spelled_ping_req = refl

spelled_nack : spelling nack ≡ nack_bytes
unfolding spelling
spelled_nack = refl

read_ping_req : packet_of ping_req_bytes ≡ Ok ping_req
unfolding packet_of packet_at head_at name_at addr_at body_at claims_at
read_ping_req = refl

read_nack : packet_of nack_bytes ≡ Ok nack
unfolding packet_of packet_at head_at name_at body_at claims_at
read_nack = refl

-- the longest body and the longest packet
longest_body : length (spelled_body One [] (PingReq 4294967295 (replicate 32 99) (at_port 65535))) ≡ 43
longest_body = refl

abbrev longest : Packet
longest =
    let name = replicate 32 99 in
    let claim : Claim = record { name = name; addr = at_port 65535; status = Suspect name; incarnation = 1000000000 } in
    let asks = PingReq 4294967295 name (at_port 65535) in
    record { version = One; group = None; sender = name; body = asks; claims = record { items = replicate 6 claim } }

longest_packet : length (spelling longest) ≡ 543
unfolding spelling
longest_packet = refl

-- a PingReq that ends within its number, within its target, within the four bytes of its address, and within its port
short_number : Fails (take 9 ping_req_bytes) faults.Short
unfolding packet_of packet_at head_at name_at body_at claims_at fault_of first_fault fault_behind
short_number = record { read = refl; placed = refl }

short_target : Fails (take 11 ping_req_bytes) faults.Short
unfolding packet_of packet_at head_at name_at body_at claims_at fault_of first_fault fault_behind
short_target = record { read = refl; placed = refl }

short_octets : Fails (take 15 ping_req_bytes) faults.Short
unfolding packet_of packet_at head_at name_at addr_at body_at claims_at fault_of first_fault fault_behind
short_octets = record { read = refl; placed = refl }

short_port : Fails (take 17 ping_req_bytes) faults.Short
unfolding packet_of packet_at head_at name_at addr_at body_at claims_at fault_of first_fault fault_behind
short_port = record { read = refl; placed = refl }

-- a target with no bytes, one with 33 bytes, and one with a bad byte
no_target : Fails (0x53 ∷ 0x4c ∷ 1 ∷ 2 ∷ 1 ∷ 97 ∷ 0 ∷ 0 ∷ 0 ∷ 1 ∷ 0 ∷ []) faults.Name
unfolding packet_of packet_at head_at name_at body_at claims_at fault_of first_fault fault_behind
no_target = record { read = refl; placed = refl }

long_target : Fails (0x53 ∷ 0x4c ∷ 1 ∷ 2 ∷ 1 ∷ 97 ∷ 0 ∷ 0 ∷ 0 ∷ 1 ∷ 33 ∷ []) faults.Name
unfolding packet_of packet_at head_at name_at body_at claims_at fault_of first_fault fault_behind
long_target = record { read = refl; placed = refl }

bad_target : Fails (0x53 ∷ 0x4c ∷ 1 ∷ 2 ∷ 1 ∷ 97 ∷ 0 ∷ 0 ∷ 0 ∷ 1 ∷ 2 ∷ 32 ∷ []) faults.Name
unfolding packet_of packet_at head_at name_at body_at claims_at fault_of first_fault fault_behind
bad_target = record { read = refl; placed = refl }

-- a Nack that ends within its number, and one with a byte too many
short_nack : Fails (take 9 nack_bytes) faults.Short
unfolding packet_of packet_at head_at name_at body_at claims_at fault_of first_fault fault_behind
short_nack = record { read = refl; placed = refl }

longer_nack : Fails (0x53 ∷ 0x4c ∷ 1 ∷ 4 ∷ 1 ∷ 98 ∷ 0 ∷ 0 ∷ 0 ∷ 1 ∷ 0 ∷ 0 ∷ []) faults.Trailing
unfolding packet_of packet_at head_at name_at body_at claims_at fault_of first_fault fault_behind
longer_nack = record { read = refl; placed = refl }

-- ---- claims

-- a tells b that c is alive
abbrev alive : Packet
alive =
    let claim : Claim = record { name = 99 ∷ []; addr = at_port 7003; status = Alive; incarnation = 0 } in
    let asks = Ping 7 (98 ∷ []) in
    record { version = One; group = None; sender = 97 ∷ []; body = asks; claims = record { items = claim ∷ [] } }

abbrev alive_bytes : List ℕ
alive_bytes =
    0x53 ∷ 0x4c ∷ 1 ∷ 1 ∷ 1 ∷ 97 ∷ 0 ∷ 0 ∷ 0 ∷ 7 ∷ 1 ∷ 98 ∷ 1 ∷ 1 ∷ 1 ∷ 99 ∷ 0x7f ∷ 0
    ∷ 0 ∷ 1 ∷ 0x1b ∷ 0x5b ∷ 0 ∷ 0 ∷ 0 ∷ 0 ∷ []

spelled_alive : spelling alive ≡ alive_bytes
unfolding spelling
spelled_alive = refl

read_alive : packet_of alive_bytes ≡ Ok alive
unfolding packet_of packet_at head_at name_at body_at claims_at claim_at addr_at incarnation_at status_at
read_alive = refl

-- a tells b that a suspects b at the greatest incarnation
abbrev suspect : Packet
suspect =
    let accused = Suspect (97 ∷ []) in
    let claim : Claim = record { name = 98 ∷ []; addr = at_port 7000; status = accused; incarnation = 1000000000 } in
    let asks = Ping 1 (98 ∷ []) in
    record { version = One; group = None; sender = 97 ∷ []; body = asks; claims = record { items = claim ∷ [] } }

abbrev suspect_bytes : List ℕ
suspect_bytes =
    0x53 ∷ 0x4c ∷ 1 ∷ 1 ∷ 1 ∷ 97 ∷ 0 ∷ 0 ∷ 0 ∷ 1 ∷ 1 ∷ 98 ∷ 1 ∷ 2 ∷ 1 ∷ 98 ∷ 0x7f ∷ 0
    ∷ 0 ∷ 1 ∷ 0x1b ∷ 0x58 ∷ 0x3b ∷ 0x9a ∷ 0xca ∷ 0 ∷ 1 ∷ 97 ∷ []

spelled_suspect : spelling suspect ≡ suspect_bytes
unfolding spelling
spelled_suspect = refl

read_suspect : packet_of suspect_bytes ≡ Ok suspect
unfolding packet_of packet_at head_at name_at body_at claims_at claim_at addr_at incarnation_at status_at
read_suspect = refl

-- seven claims, and a claim of a fourth kind
seven_claims : Fails (0x53 ∷ 0x4c ∷ 1 ∷ 3 ∷ 1 ∷ 98 ∷ 0 ∷ 0 ∷ 0 ∷ 7 ∷ 7 ∷ []) faults.Count
unfolding packet_of packet_at head_at name_at body_at claims_at fault_of first_fault fault_behind
seven_claims = record { read = refl; placed = refl }

fourth_kind : Fails (0x53 ∷ 0x4c ∷ 1 ∷ 3 ∷ 1 ∷ 98 ∷ 0 ∷ 0 ∷ 0 ∷ 7 ∷ 1 ∷ 4 ∷ []) faults.ClaimKind
unfolding packet_of packet_at head_at name_at body_at claims_at claim_at fault_of first_fault fault_behind
fourth_kind = record { read = refl; placed = refl }

-- an incarnation above the greatest: it is judged at its fourth byte
third_byte : Fails
    (0x53 ∷ 0x4c ∷ 1 ∷ 3 ∷ 1 ∷ 98 ∷ 0 ∷ 0 ∷ 0 ∷ 7 ∷ 1 ∷ 1 ∷ 1 ∷ 99 ∷ 0x7f ∷ 0 ∷ 0 ∷ 1
    ∷ 0x1b ∷ 0x5b ∷ 0xff ∷ 0xff ∷ 0xff ∷ []) faults.Short
unfolding packet_of packet_at head_at name_at body_at claims_at claim_at addr_at incarnation_at
    fault_of first_fault fault_behind
third_byte = record { read = refl; placed = refl }

fourth_byte : Fails
    (0x53 ∷ 0x4c ∷ 1 ∷ 3 ∷ 1 ∷ 98 ∷ 0 ∷ 0 ∷ 0 ∷ 7 ∷ 1 ∷ 1 ∷ 1 ∷ 99 ∷ 0x7f ∷ 0 ∷ 0 ∷ 1
    ∷ 0x1b ∷ 0x5b ∷ 0x3b ∷ 0x9a ∷ 0xca ∷ 1 ∷ []) faults.Incarnation
unfolding packet_of packet_at head_at name_at body_at claims_at claim_at addr_at incarnation_at
    fault_of first_fault fault_behind
fourth_byte = record { read = refl; placed = refl }

-- ---- pages of records

-- the claim that the member with this one-byte name is alive, at this port
abbrev there : ℕ → ℕ → Claim
there name port = record { name = name ∷ []; addr = at_port port; status = Alive; incarnation = 0 }

-- a asks for the first records, and says that a is alive
abbrev pull : Packet
pull =
    let own = there 97 7001 in
    record { version = One; group = None; sender = 97 ∷ []; body = Pull None; claims = record { items = own ∷ [] } }

abbrev pull_bytes : List ℕ
pull_bytes =
    0x53 ∷ 0x4c ∷ 1 ∷ 5 ∷ 1 ∷ 97 ∷ 0 ∷ 1 ∷ 1 ∷ 1 ∷ 97 ∷ 0x7f ∷ 0 ∷ 0 ∷ 1 ∷ 0x1b ∷ 0x59
    ∷ 0 ∷ 0 ∷ 0 ∷ 0 ∷ []

-- b answers with the records of a, b and c
abbrev page : Packet
page =
    let records = there 97 7001 ∷ there 98 7002 ∷ there 99 7003 ∷ [] in
    record { version = One; group = None; sender = 98 ∷ []; body = Page; claims = record { items = records } }

abbrev page_bytes : List ℕ
page_bytes =
    0x53 ∷ 0x4c ∷ 1 ∷ 6 ∷ 1 ∷ 98 ∷ 3 ∷ 1 ∷ 1 ∷ 97 ∷ 0x7f ∷ 0 ∷ 0 ∷ 1 ∷ 0x1b ∷ 0x59 ∷ 0
    ∷ 0 ∷ 0 ∷ 0 ∷ 1 ∷ 1 ∷ 98 ∷ 0x7f ∷ 0 ∷ 0 ∷ 1 ∷ 0x1b ∷ 0x5a ∷ 0 ∷ 0 ∷ 0 ∷ 0 ∷ 1
    ∷ 1 ∷ 99 ∷ 0x7f ∷ 0 ∷ 0 ∷ 1 ∷ 0x1b ∷ 0x5b ∷ 0 ∷ 0 ∷ 0 ∷ 0 ∷ []

-- a asks for the records after f
abbrev pull_after : Packet
pull_after =
    let asks = Pull (Some (102 ∷ [])) in
    let own = there 97 7001 in
    record { version = One; group = None; sender = 97 ∷ []; body = asks; claims = record { items = own ∷ [] } }

abbrev pull_after_bytes : List ℕ
pull_after_bytes =
    0x53 ∷ 0x4c ∷ 1 ∷ 5 ∷ 1 ∷ 97 ∷ 1 ∷ 102 ∷ 1 ∷ 1 ∷ 1 ∷ 97 ∷ 0x7f ∷ 0 ∷ 0 ∷ 1 ∷ 0x1b
    ∷ 0x59 ∷ 0 ∷ 0 ∷ 0 ∷ 0 ∷ []

spelled_pull : spelling pull ≡ pull_bytes
unfolding spelling
spelled_pull = refl

spelled_page : spelling page ≡ page_bytes
unfolding spelling
spelled_page = refl

spelled_pull_after : spelling pull_after ≡ pull_after_bytes
unfolding spelling
spelled_pull_after = refl

read_pull : packet_of pull_bytes ≡ Ok pull
unfolding packet_of packet_at head_at name_at some_name_at name_or_none_at body_at claims_at claim_at addr_at
    incarnation_at status_at
read_pull = refl

read_page : packet_of page_bytes ≡ Ok page
unfolding packet_of packet_at head_at name_at some_name_at name_or_none_at body_at claims_at claim_at addr_at
    incarnation_at status_at
read_page = refl

read_pull_after : packet_of pull_after_bytes ≡ Ok pull_after
unfolding packet_of packet_at head_at name_at some_name_at name_or_none_at body_at claims_at claim_at addr_at
    incarnation_at status_at
read_pull_after = refl

-- a Pull that ends before the length of its name, within its name, and before its count
no_length : Fails (take 6 pull_bytes) faults.Short
unfolding packet_of packet_at head_at name_at some_name_at name_or_none_at body_at fault_of first_fault fault_behind
no_length = record { read = refl; placed = refl }

short_after : Fails (take 7 pull_after_bytes) faults.Short
unfolding packet_of packet_at head_at name_at some_name_at name_or_none_at body_at fault_of first_fault fault_behind
short_after = record { read = refl; placed = refl }

no_count : Fails (take 7 pull_bytes) faults.Short
unfolding packet_of packet_at head_at name_at some_name_at name_or_none_at body_at fault_of first_fault fault_behind
no_count = record { read = refl; placed = refl }

-- a Pull whose name has 32 bytes, one whose name would have 33, and one whose name has two bytes, of which one is bad
longest_after : packet_of (take 6 pull_bytes ++ 32 ∷ replicate 32 99 ++ 0 ∷ [])
    ≡ Ok (record {
      version = One;
      group = None;
      sender = 97 ∷ [];
      body = Pull (Some (replicate 32 99));
      claims = record { items = [] };
    })
unfolding packet_of packet_at head_at name_at some_name_at name_or_none_at body_at claims_at
longest_after = refl

long_after : Fails (0x53 ∷ 0x4c ∷ 1 ∷ 5 ∷ 1 ∷ 97 ∷ 0x21 ∷ []) faults.Name
unfolding packet_of packet_at head_at name_at some_name_at name_or_none_at body_at fault_of first_fault fault_behind
long_after = record { read = refl; placed = refl }

bad_after : Fails (0x53 ∷ 0x4c ∷ 1 ∷ 5 ∷ 1 ∷ 97 ∷ 2 ∷ 32 ∷ []) faults.Name
unfolding packet_of packet_at head_at name_at some_name_at name_or_none_at body_at fault_of first_fault fault_behind
bad_after = record { read = refl; placed = refl }

-- a Page that ends before its count, one with seven records, and one with a byte too many
short_page : Fails (take 6 page_bytes) faults.Short
unfolding packet_of packet_at head_at name_at body_at fault_of first_fault fault_behind
short_page = record { read = refl; placed = refl }

seven_records : Fails (0x53 ∷ 0x4c ∷ 1 ∷ 6 ∷ 1 ∷ 98 ∷ 7 ∷ []) faults.Count
unfolding packet_of packet_at head_at name_at body_at fault_of first_fault fault_behind
seven_records = record { read = refl; placed = refl }

longer_page : Fails (0x53 ∷ 0x4c ∷ 1 ∷ 6 ∷ 1 ∷ 98 ∷ 0 ∷ 0 ∷ []) faults.Trailing
unfolding packet_of packet_at head_at name_at body_at claims_at fault_of first_fault fault_behind
longer_page = record { read = refl; placed = refl }
