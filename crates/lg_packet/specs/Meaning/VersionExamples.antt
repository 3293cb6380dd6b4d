-- Worked rows of the version: a packet of version two with its bytes, and bytes that are no version.
use Rattle.std.specs.Prelude.{◌≡◌, ℕ, List, [], ◌∷◌, drop, None, Ok, refl}
use Rattle.lg_packet.specs.declared.fault.Fault.TheVariants as faults
use Rattle.lg_packet.specs.declared.packet.Body.TheVariants.{Ping}
use Rattle.lg_packet.specs.declared.packet.Packet.{Packet}
use Rattle.lg_rules.specs.declared.version.Version.TheVariants.{One, Two}
use Rattle.lg_packet.specs.Meaning.Spelling.{spelling}
use Rattle.lg_packet.specs.Meaning.Reading.{name_at, head_at, body_at, claims_at, packet_at, packet_of}
use Rattle.lg_packet.specs.Meaning.Fault.{fault_of, first_fault, fault_behind}
use Rattle.lg_packet.specs.Meaning.Examples.{Fails}

-- a Ping from a for b in version 2, numbered 1
abbrev pub second : Packet
second =
    let asks = Ping 1 (98 ∷ []) in
    record { version = Two; group = None; sender = 97 ∷ []; body = asks; claims = record { items = [] } }

abbrev pub second_bytes : List ℕ
second_bytes = 0x53 ∷ 0x4c ∷ 2 ∷ 1 ∷ 1 ∷ 97 ∷ 0 ∷ 0 ∷ 0 ∷ 1 ∷ 1 ∷ 98 ∷ 0 ∷ []

spelled_second : spelling second ≡ second_bytes
unfolding spelling
spelled_second = refl

read_second : packet_of second_bytes ≡ Ok second
unfolding packet_of packet_at head_at name_at body_at claims_at
read_second = refl

-- the two spellings of what is said in one version and in the other: only the third byte differs
both_versions : (p : Packet)
    → spelling (record p { version = Two }) ≡ 0x53 ∷ 0x4c ∷ 2 ∷ drop 3 (spelling (record p { version = One }))
unfolding spelling
both_versions p = refl

-- a version is 1, 2 or 3
no_version : Fails (0x53 ∷ 0x4c ∷ 0 ∷ []) faults.Version
unfolding packet_of packet_at head_at name_at body_at claims_at fault_of first_fault fault_behind
no_version = record { read = refl; placed = refl }

fourth_version : Fails (0x53 ∷ 0x4c ∷ 4 ∷ []) faults.Version
unfolding packet_of packet_at head_at name_at body_at claims_at fault_of first_fault fault_behind
fourth_version = record { read = refl; placed = refl }

other_version : Fails (0x53 ∷ 0x4c ∷ 0xff ∷ []) faults.Version
unfolding packet_of packet_at head_at name_at body_at claims_at fault_of first_fault fault_behind
other_version = record { read = refl; placed = refl }

-- the next byte is judged as in version 1
seventh_kind_of_two : Fails (0x53 ∷ 0x4c ∷ 2 ∷ 7 ∷ []) faults.Kind
unfolding packet_of packet_at head_at name_at body_at claims_at fault_of first_fault fault_behind
seventh_kind_of_two = record { read = refl; placed = refl }
