-- Worked rows of fronts, which are beginnings of byte lists: which stand, and with which a spelling begins.
use Rattle.std.specs.Prelude.{◌≡◌, ℕ, List, [], ◌∷◌, ◌++◌, Some, None, refl}
use Rattle.std.proofs.Common.{sym, ◌∙◌, arith}
use Rattle.lg_packet.specs.declared.fault.Fault.TheVariants as faults
use Rattle.lg_packet.specs.declared.packet.Body.TheVariants.{Ping}
use Rattle.lg_packet.specs.declared.packet.Packet.{Packet}
use Rattle.lg_rules.specs.declared.version.Version.TheVariants.{One}
use Rattle.lg_packet.specs.Meaning.Spelling.{spelling, IsPacket, BeginsSpelling}
use Rattle.lg_packet.specs.Meaning.Fault.{fault_behind, packet_parts, due_after, Stands}
use Rattle.lg_packet.specs.Meaning.Fault.{begun_incarnation, least_number, IncarnationFits}
use Rattle.lg_packet.specs.Meaning.VersionExamples.{second, second_bytes}

-- each byte of the magic can stand in its place
magic_stands : (fault_behind [] 0x53 ≡ None) × (fault_behind (0x53 ∷ []) 0x4c ≡ None)
unfolding fault_behind
magic_stands = (refl, refl)

-- a Ping from a for b, numbered 7, and what comes after the magic in its spelling
abbrev ping : Packet
ping = record { version = One; group = None; sender = 97 ∷ []; body = Ping 7 (98 ∷ []); claims = record { items = [] } }

abbrev behind_magic : List ℕ
behind_magic = 1 ∷ 1 ∷ 1 ∷ 97 ∷ 0 ∷ 0 ∷ 0 ∷ 7 ∷ 1 ∷ 98 ∷ 0 ∷ []

is_packet : IsPacket ping
is_packet =
    record { group = refl; sender = refl; body = (omega arith, refl); claims = record { few = omega arith; each = tt } }

magic_begins : BeginsSpelling (0x53 ∷ 0x4c ∷ [])
unfolding spelling
magic_begins = (ping, behind_magic, (is_packet, refl))

-- a version of 1, of 2 or of 3 can stand, and no other
version_stands : (fault_behind (0x53 ∷ 0x4c ∷ []) 1 ≡ None) × (fault_behind (0x53 ∷ 0x4c ∷ []) 2 ≡ None)
    × (fault_behind (0x53 ∷ 0x4c ∷ []) 3 ≡ None)
unfolding fault_behind
version_stands = (refl, refl, refl)

no_version : fault_behind (0x53 ∷ 0x4c ∷ []) 0 ≡ Some faults.Version
unfolding fault_behind
no_version = refl

fourth_version : fault_behind (0x53 ∷ 0x4c ∷ []) 4 ≡ Some faults.Version
unfolding fault_behind
fourth_version = refl

no_fourth_version : ¬ (Stands (0x53 ∷ 0x4c ∷ 4 ∷ []))
no_fourth_version stands = none (sym fourth_version ∙ stands (0x53 ∷ 0x4c ∷ []) [] 4 refl)
  where
    none : Some faults.Version ≡ None → ⊥
    none e = cc

-- each front of the Ping in version 2
second_is_packet : IsPacket second
second_is_packet =
    record { group = refl; sender = refl; body = (omega arith, refl); claims = record { few = omega arith; each = tt } }

second_begins : (front rest : List ℕ) → front ++ rest ≡ second_bytes → BeginsSpelling front
unfolding spelling
second_begins front rest whole = (second, rest, (second_is_packet, whole))

-- a length of 33 can't stand there, so no front that has it stands
long_length : fault_behind (0x53 ∷ 0x4c ∷ 1 ∷ 1 ∷ []) 0x21 ≡ Some faults.Name
unfolding fault_behind
long_length = refl

no_long_length : ¬ (Stands (0x53 ∷ 0x4c ∷ 1 ∷ 1 ∷ 0x21 ∷ []))
no_long_length stands = none (sym long_length ∙ stands (0x53 ∷ 0x4c ∷ 1 ∷ 1 ∷ []) [] 0x21 refl)
  where
    none : Some faults.Name ≡ None → ⊥
    none e = cc

-- an Ack of b, numbered 7, up to the incarnation of its one claim, and the bytes of the incarnation that are there
abbrev to_incarnation : List ℕ → List ℕ
to_incarnation begun =
    0x53 ∷ 0x4c ∷ 1 ∷ 3 ∷ 1 ∷ 98 ∷ 0 ∷ 0 ∷ 0 ∷ 7 ∷ 1 ∷ 1 ∷ 1 ∷ 99 ∷ 0x7f ∷ 0 ∷ 0 ∷ 1
    ∷ 0x1b ∷ 0x5b ∷ begun

-- the greatest incarnation begins with 3b 9a ca
greatest_begun :
    least_number (begun_incarnation (due_after packet_parts (to_incarnation (0x3b ∷ 0x9a ∷ 0xca ∷ []))))
    ≡ 1000000000
greatest_begun = refl

greatest_fits : IncarnationFits (to_incarnation (0x3b ∷ 0x9a ∷ 0xca ∷ []))
greatest_fits = omega arith

-- the third byte can be one more, and then not even 0 can be the fourth
greater_stands : fault_behind (to_incarnation (0x3b ∷ 0x9a ∷ [])) 0xcb ≡ None
unfolding fault_behind
greater_stands = refl

greater_ends : fault_behind (to_incarnation (0x3b ∷ 0x9a ∷ 0xcb ∷ [])) 0 ≡ Some faults.Incarnation
unfolding fault_behind
greater_ends = refl

greater_fits_not : ¬ (IncarnationFits (to_incarnation (0x3b ∷ 0x9a ∷ 0xcb ∷ [])))
greater_fits_not fits = omega (arith, fits)

-- a front that doesn't end in an incarnation
none_begun : IncarnationFits (0x53 ∷ 0x4c ∷ [])
none_begun = omega arith
