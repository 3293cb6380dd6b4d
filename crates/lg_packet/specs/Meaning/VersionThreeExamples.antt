-- Worked rows of version three: packets with their bytes, what versions one and two tell of them, and bytes with their
-- faults.
use Rattle.std.specs.Prelude.{◌≡◌, ℕ, List, [], ◌∷◌, ◌++◌}
use Rattle.std.specs.Prelude.{length, replicate, take, drop, Some, None, Ok, refl}
use Rattle.lg_rules.specs.declared.addr.Addr.{Addr}
use Rattle.lg_rules.specs.declared.addr.Ip.TheVariants.{V4, V6}
use Rattle.lg_rules.specs.declared.claim.Claim.{Claim}
use Rattle.lg_rules.specs.declared.claim.Status.TheVariants.{Alive, Suspect, Failed, Left}
use Rattle.lg_rules.specs.declared.version.Version.TheVariants.{One, Two, Three}
use Rattle.lg_packet.specs.declared.fault.Fault.TheVariants as faults
use Rattle.lg_packet.specs.declared.packet.Body.TheVariants.{Ping, PingReq, Ack, Page, Gossip}
use Rattle.lg_packet.specs.declared.packet.Packet.{Packet}
use Rattle.lg_packet.specs.Meaning.Spelling.{spelled_body, spelled_claims, spelling, spellable}
use Rattle.lg_packet.specs.Meaning.Reading.{name_at, head_at, body_at, claims_at, packet_at, packet_of}
use Rattle.lg_packet.specs.Meaning.Reading.{addr_at, incarnation_at, status_at, claim_at, some_name_at, name_or_none_at}
use Rattle.lg_packet.specs.Meaning.Fault.{fault_of, first_fault, fault_behind}
use Rattle.lg_packet.specs.Meaning.Examples.{Fails}

-- ---- who left

-- the address 127.0.0.1 with the port 7003, and its bytes, which begin with a 4 for its family
abbrev at_7003 : Addr
at_7003 = record { ip = V4 (127 ∷ 0 ∷ 0 ∷ 1 ∷ []); port = 7003 }

abbrev at_7003_bytes : List ℕ
at_7003_bytes = 4 ∷ 0x7f ∷ 0 ∷ 0 ∷ 1 ∷ 0x1b ∷ 0x5b ∷ []

-- a tells b that c leaves, with its incarnation 2
abbrev left : Packet
left =
    let claim : Claim = record { name = 99 ∷ []; addr = at_7003; status = Left; incarnation = 2 } in
    record {
      version = Three;
      group = None;
      sender = 97 ∷ [];
      body = Ping 7 (98 ∷ []);
      claims = record { items = claim ∷ [] };
    }

-- its bytes up to the kind of the claim, and those behind that kind
abbrev to_claim_kind : List ℕ
to_claim_kind = 0x53 ∷ 0x4c ∷ 3 ∷ 1 ∷ 0 ∷ 1 ∷ 97 ∷ 0 ∷ 0 ∷ 0 ∷ 7 ∷ 1 ∷ 98 ∷ 1 ∷ []

abbrev behind_claim_kind : List ℕ
behind_claim_kind = 1 ∷ 99 ∷ at_7003_bytes ++ 0 ∷ 0 ∷ 0 ∷ 2 ∷ []

abbrev left_bytes : List ℕ
left_bytes = to_claim_kind ++ 4 ∷ behind_claim_kind

spelled_left : spelling left ≡ left_bytes
unfolding spelling
spelled_left = refl

read_left : packet_of left_bytes ≡ Ok left
unfolding packet_of packet_at head_at name_or_none_at name_at body_at claims_at claim_at addr_at incarnation_at
    status_at
read_left = refl

-- version two tells that c has failed, with neither a group nor a family
left_of_two : spelling (record left { version = Two })
    ≡ 0x53 ∷ 0x4c ∷ 2 ∷ 1 ∷ 1 ∷ 97 ∷ 0 ∷ 0 ∷ 0 ∷ 7 ∷ 1 ∷ 98 ∷ 1 ∷ 3 ∷ 1 ∷ 99 ∷ 0x7f ∷ 0 ∷ 0
    ∷ 1 ∷ 0x1b ∷ 0x5b ∷ 0 ∷ 0 ∷ 0 ∷ 2 ∷ []
unfolding spelling
left_of_two = refl

told_of_two : spellable (record left { version = Two })
    ≡ (let claim : Claim = record { name = 99 ∷ []; addr = at_7003; status = Failed; incarnation = 2 } in
    record {
      version = Two;
      group = None;
      sender = 97 ∷ [];
      body = Ping 7 (98 ∷ []);
      claims = record { items = claim ∷ [] };
    })
told_of_two = refl

-- versions two and one have no fourth kind of claim
left_in_two : Fails
    (0x53 ∷ 0x4c ∷ 2 ∷ 1 ∷ 1 ∷ 97 ∷ 0 ∷ 0 ∷ 0 ∷ 7 ∷ 1 ∷ 98 ∷ 1 ∷ 4 ∷ 1 ∷ 99 ∷ 0x7f ∷ 0 ∷ 0
    ∷ 1 ∷ 0x1b ∷ 0x5b ∷ 0 ∷ 0 ∷ 0 ∷ 2 ∷ []) faults.ClaimKind
unfolding packet_of packet_at head_at name_at body_at claims_at claim_at fault_of first_fault fault_behind
left_in_two = record { read = refl; placed = refl }

left_in_one : Fails
    (0x53 ∷ 0x4c ∷ 1 ∷ 1 ∷ 1 ∷ 97 ∷ 0 ∷ 0 ∷ 0 ∷ 7 ∷ 1 ∷ 98 ∷ 1 ∷ 4 ∷ 1 ∷ 99 ∷ 0x7f ∷ 0 ∷ 0
    ∷ 1 ∷ 0x1b ∷ 0x5b ∷ 0 ∷ 0 ∷ 0 ∷ 2 ∷ []) faults.ClaimKind
unfolding packet_of packet_at head_at name_at body_at claims_at claim_at fault_of first_fault fault_behind
left_in_one = record { read = refl; placed = refl }

-- a fifth kind of claim, and a kind of 0
fifth_claim_kind : Fails (to_claim_kind ++ 5 ∷ behind_claim_kind) faults.ClaimKind
unfolding packet_of packet_at head_at name_or_none_at name_at body_at claims_at claim_at
    fault_of first_fault fault_behind
fifth_claim_kind = record { read = refl; placed = refl }

no_claim_kind : Fails (to_claim_kind ++ 0 ∷ behind_claim_kind) faults.ClaimKind
unfolding packet_of packet_at head_at name_or_none_at name_at body_at claims_at claim_at
    fault_of first_fault fault_behind
no_claim_kind = record { read = refl; placed = refl }

-- a fourth version, and a version of 0
left_of_four : Fails (0x53 ∷ 0x4c ∷ 4 ∷ drop 3 left_bytes) faults.Version
unfolding packet_of packet_at head_at fault_of first_fault fault_behind
left_of_four = record { read = refl; placed = refl }

left_of_none : Fails (0x53 ∷ 0x4c ∷ 0 ∷ drop 3 left_bytes) faults.Version
unfolding packet_of packet_at head_at fault_of first_fault fault_behind
left_of_none = record { read = refl; placed = refl }

-- an accuser behind it, its last byte missing, and its incarnation missing
accused_left : Fails (left_bytes ++ 1 ∷ 97 ∷ []) faults.Trailing
unfolding packet_of packet_at head_at name_or_none_at name_at body_at claims_at claim_at addr_at incarnation_at
    status_at fault_of first_fault fault_behind
accused_left = record { read = refl; placed = refl }

short_left : Fails (take 26 left_bytes) faults.Short
unfolding packet_of packet_at head_at name_or_none_at name_at body_at claims_at claim_at addr_at incarnation_at
    fault_of first_fault fault_behind
short_left = record { read = refl; placed = refl }

no_incarnation : Fails (take 23 left_bytes) faults.Short
unfolding packet_of packet_at head_at name_or_none_at name_at body_at claims_at claim_at addr_at incarnation_at
    fault_of first_fault fault_behind
no_incarnation = record { read = refl; placed = refl }

-- the same with no claims
read_without : packet_of (take 13 left_bytes ++ 0 ∷ []) ≡ Ok (record left { claims = record { items = [] } })
unfolding packet_of packet_at head_at name_or_none_at name_at body_at claims_at
read_without = refl

-- ---- groups

-- a tells its group grn that c is alive, with its incarnation 3, at the IPv6 address 2001:db8::1 and the port 7003
abbrev gossip : Packet
gossip =
    let ip = V6 (0x20 ∷ 1 ∷ 0xd ∷ 0xb8 ∷ replicate 11 0 ++ 1 ∷ []) in
    let addr : Addr = record { ip = ip; port = 7003 } in
    let claim : Claim = record { name = 99 ∷ []; addr = addr; status = Alive; incarnation = 3 } in
    record {
      version = Three;
      group = Some (103 ∷ 114 ∷ 110 ∷ []);
      sender = 97 ∷ [];
      body = Gossip;
      claims = record { items = claim ∷ [] };
    }

abbrev gossip_bytes : List ℕ
gossip_bytes =
    0x53 ∷ 0x4c ∷ 3 ∷ 7 ∷ 3 ∷ 103 ∷ 114 ∷ 110 ∷ 1 ∷ 97 ∷ 1 ∷ 1 ∷ 1 ∷ 99 ∷ 6 ∷ 0x20 ∷ 1 ∷ 0xd
    ∷ 0xb8 ∷ 0 ∷ 0 ∷ 0 ∷ 0 ∷ 0 ∷ 0 ∷ 0 ∷ 0 ∷ 0 ∷ 0 ∷ 0 ∷ 1 ∷ 0x1b ∷ 0x5b ∷ 0 ∷ 0 ∷ 0
    ∷ 3 ∷ []

spelled_gossip : spelling gossip ≡ gossip_bytes
unfolding spelling
spelled_gossip = refl

read_gossip : packet_of gossip_bytes ≡ Ok gossip
unfolding packet_of packet_at head_at some_name_at name_or_none_at name_at body_at claims_at claim_at addr_at
    incarnation_at status_at
read_gossip = refl

-- version one tells it as a Page with no group, and the address as 0.0.0.0
gossip_of_one : spelling (record gossip { version = One })
    ≡ 0x53 ∷ 0x4c ∷ 1 ∷ 6 ∷ 1 ∷ 97 ∷ 1 ∷ 1 ∷ 1 ∷ 99 ∷ 0 ∷ 0 ∷ 0 ∷ 0 ∷ 0x1b ∷ 0x5b ∷ 0 ∷ 0 ∷ 0
    ∷ 3 ∷ []
unfolding spelling
gossip_of_one = refl

-- a group of 32 bytes, and one of 33
longest_group : packet_of (0x53 ∷ 0x4c ∷ 3 ∷ 7 ∷ 32 ∷ replicate 32 110 ++ 1 ∷ 97 ∷ 0 ∷ [])
    ≡ Ok (record {
      version = Three;
      group = Some (replicate 32 110);
      sender = 97 ∷ [];
      body = Gossip;
      claims = record { items = [] };
    })
unfolding packet_of packet_at head_at some_name_at name_or_none_at name_at body_at claims_at
longest_group = refl

long_group : Fails (0x53 ∷ 0x4c ∷ 3 ∷ 1 ∷ 33 ∷ replicate 33 110) faults.Name
unfolding packet_of packet_at head_at some_name_at name_or_none_at name_at fault_of first_fault fault_behind
long_group = record { read = refl; placed = refl }

-- a group with a bad byte, one whose end is missing, and a good one before a sender with no bytes
bad_group : Fails (0x53 ∷ 0x4c ∷ 3 ∷ 1 ∷ 2 ∷ 103 ∷ 33 ∷ 1 ∷ []) faults.Name
unfolding packet_of packet_at head_at some_name_at name_or_none_at name_at fault_of first_fault fault_behind
bad_group = record { read = refl; placed = refl }

short_group : Fails (0x53 ∷ 0x4c ∷ 3 ∷ 1 ∷ 2 ∷ 103 ∷ []) faults.Short
unfolding packet_of packet_at head_at some_name_at name_or_none_at name_at fault_of first_fault fault_behind
short_group = record { read = refl; placed = refl }

no_sender : Fails (0x53 ∷ 0x4c ∷ 3 ∷ 1 ∷ 2 ∷ 103 ∷ 114 ∷ 0 ∷ []) faults.Name
unfolding packet_of packet_at head_at some_name_at name_or_none_at name_at fault_of first_fault fault_behind
no_sender = record { read = refl; placed = refl }

-- ---- families of addresses

-- what stands behind the family of the address 2001:db8::1 and the port 7003
abbrev behind_family : List ℕ
behind_family = 0x20 ∷ 1 ∷ 0xd ∷ 0xb8 ∷ replicate 11 0 ++ 1 ∷ 0x1b ∷ 0x5b ∷ []

-- a claim whose family is 5, or 0
fifth_family : Fails (to_claim_kind ++ 1 ∷ 1 ∷ 99 ∷ 5 ∷ behind_family ++ 0 ∷ 0 ∷ 0 ∷ 0 ∷ []) faults.Family
unfolding packet_of packet_at head_at name_or_none_at name_at body_at claims_at claim_at addr_at
    fault_of first_fault fault_behind
fifth_family = record { read = refl; placed = refl }

no_family : Fails (to_claim_kind ++ 1 ∷ 1 ∷ 99 ∷ 0 ∷ behind_family ++ 0 ∷ 0 ∷ 0 ∷ 0 ∷ []) faults.Family
unfolding packet_of packet_at head_at name_or_none_at name_at body_at claims_at claim_at addr_at
    fault_of first_fault fault_behind
no_family = record { read = refl; placed = refl }

-- a PingReq about c up to the family of its address: one of the family 7, one that ends with its family, and one that
-- ends in its address
abbrev to_family : List ℕ
to_family = 0x53 ∷ 0x4c ∷ 3 ∷ 2 ∷ 0 ∷ 1 ∷ 97 ∷ 0 ∷ 0 ∷ 0 ∷ 9 ∷ 1 ∷ 99 ∷ []

seventh_family : Fails (to_family ++ 7 ∷ behind_family ++ 0 ∷ []) faults.Family
unfolding packet_of packet_at head_at name_or_none_at name_at body_at addr_at fault_of first_fault fault_behind
seventh_family = record { read = refl; placed = refl }

family_alone : Fails (to_family ++ 6 ∷ []) faults.Short
unfolding packet_of packet_at head_at name_or_none_at name_at body_at addr_at fault_of first_fault fault_behind
family_alone = record { read = refl; placed = refl }

short_address : Fails (to_family ++ 6 ∷ take 10 behind_family) faults.Short
unfolding packet_of packet_at head_at name_or_none_at name_at body_at addr_at fault_of first_fault fault_behind
short_address = record { read = refl; placed = refl }

-- ---- counts

-- the longest body and the longest packet
longest_body : length (spelled_body Three [] (PingReq 4294967295 (replicate 32 99) (record {
  ip = V6 (replicate 16 255);
  port = 65535;
}))) ≡ 56
longest_body = refl

abbrev longest : Packet
longest =
    let name = replicate 32 99 in
    let addr : Addr = record { ip = V6 (replicate 16 255); port = 65535 } in
    let claim : Claim = record { name = name; addr = addr; status = Suspect name; incarnation = 1000000000 } in
    record {
      version = Three;
      group = Some name;
      sender = name;
      body = PingReq 4294967295 name addr;
      claims = record { items = replicate 12 claim };
    }

longest_packet : length (spelling longest) ≡ 1207
unfolding spelling
longest_packet = refl

-- twelve claims are told and read, and thirteen are too many
abbrev twelve : Packet
twelve =
    let claim : Claim = record { name = 99 ∷ []; addr = at_7003; status = Alive; incarnation = 0 } in
    record {
      version = Three;
      group = None;
      sender = 97 ∷ [];
      body = Page;
      claims = record { items = replicate 12 claim };
    }

read_twelve : packet_of (spelling twelve) ≡ Ok twelve
unfolding spelling packet_of packet_at head_at name_or_none_at name_at body_at claims_at claim_at addr_at
    incarnation_at status_at
read_twelve = refl

thirteen_claims : Fails (take 13 to_claim_kind ++ 13 ∷ []) faults.Count
unfolding packet_of packet_at head_at name_or_none_at name_at body_at fault_of first_fault fault_behind
thirteen_claims = record { read = refl; placed = refl }

seven_in_two : Fails (0x53 ∷ 0x4c ∷ 2 ∷ 1 ∷ 1 ∷ 97 ∷ 0 ∷ 0 ∷ 0 ∷ 7 ∷ 1 ∷ 98 ∷ 7 ∷ []) faults.Count
unfolding packet_of packet_at head_at name_at body_at fault_of first_fault fault_behind
seven_in_two = record { read = refl; placed = refl }

-- version two tells the first six of them
six_of_two : spelled_claims Two twelve.claims.items ≡ spelled_claims Two (take 6 twelve.claims.items)
six_of_two = refl

-- ---- kinds and versions

-- an eighth kind, a kind of 0, and an eighth kind before a group that can't be
eighth_kind : Fails (0x53 ∷ 0x4c ∷ 3 ∷ 8 ∷ 0 ∷ 1 ∷ 97 ∷ 0 ∷ []) faults.Kind
unfolding packet_of packet_at head_at fault_of first_fault fault_behind
eighth_kind = record { read = refl; placed = refl }

no_kind : Fails (0x53 ∷ 0x4c ∷ 3 ∷ 0 ∷ 0 ∷ 1 ∷ 97 ∷ 0 ∷ []) faults.Kind
unfolding packet_of packet_at head_at fault_of first_fault fault_behind
no_kind = record { read = refl; placed = refl }

eighth_kind_first : Fails (0x53 ∷ 0x4c ∷ 3 ∷ 8 ∷ 0xff ∷ []) faults.Kind
unfolding packet_of packet_at head_at fault_of first_fault fault_behind
eighth_kind_first = record { read = refl; placed = refl }

-- ---- receivers

-- an Ack of c for b, numbered 1
abbrev ack : Packet
ack =
    let answers = Ack 1 (Some (98 ∷ [])) in
    record { version = Three; group = None; sender = 99 ∷ []; body = answers; claims = record { items = [] } }

abbrev ack_bytes : List ℕ
ack_bytes = 0x53 ∷ 0x4c ∷ 3 ∷ 3 ∷ 0 ∷ 1 ∷ 99 ∷ 0 ∷ 0 ∷ 0 ∷ 1 ∷ 1 ∷ 98 ∷ 0 ∷ []

spelled_ack : spelling ack ≡ ack_bytes
unfolding spelling
spelled_ack = refl

read_ack : packet_of ack_bytes ≡ Ok ack
unfolding packet_of packet_at head_at some_name_at name_or_none_at name_at body_at claims_at
read_ack = refl

-- without a receiver, it is told as one for c itself
ack_for_none : spellable (record ack { body = Ack 1 None }) ≡ record ack { body = Ack 1 (Some (99 ∷ [])) }
ack_for_none = refl

spelled_for_none : spelling (record ack { body = Ack 1 None })
    ≡ 0x53 ∷ 0x4c ∷ 3 ∷ 3 ∷ 0 ∷ 1 ∷ 99 ∷ 0 ∷ 0 ∷ 0 ∷ 1 ∷ 1 ∷ 99 ∷ 0 ∷ []
unfolding spelling
spelled_for_none = refl

-- and no bytes tell that
no_receiver : Fails (0x53 ∷ 0x4c ∷ 3 ∷ 3 ∷ 0 ∷ 1 ∷ 99 ∷ 0 ∷ 0 ∷ 0 ∷ 1 ∷ 0 ∷ []) faults.Name
unfolding packet_of packet_at head_at some_name_at name_or_none_at name_at body_at fault_of first_fault fault_behind
no_receiver = record { read = refl; placed = refl }
