-- Reading from left to right gives what bytes decode to.
use Rattle.std.proofs.Common.{◌≡◌, ℕ, zero, suc, ◌<◌, List, [], ◌∷◌, Result, Ok, Err, sym, ap, ◌∙◌, arith}
use Rattle.std.specs.List.{AllByRecursion}
use Rattle.std.specs.Prelude.{IfErr, OnOk}
use Rattle.lg_packet.specs.declared.fault.Fault.{Fault}
use Rattle.lg_packet.specs.declared.packet.Packet.{Packet}
use Rattle.lg_packet.specs.Meaning.Spelling.{Spells}
use Rattle.lg_packet.specs.Meaning.Decoding.{DecodesTo}
use Rattle.lg_packet.specs.Meaning.Reading.{packet_of}
use Rattle.lg_packet.specs.Support.Gives.{Gives}
use Rattle.lg_packet.proofs.Fields.{AreBytes}
use Rattle.lg_packet.proofs.Packets.{whole_read, whole_again, one_packet}
use Rattle.lg_packet.proofs.PacketPlaces.{is_fault}

pub are_bytes : (bytes : List ℕ) → AllByRecursion (λ b. b < 256) bytes → AreBytes bytes
are_bytes [] fit i = omega arith
are_bytes (b ∷ bytes) fit zero = fit.0
are_bytes (b ∷ bytes) fit (suc i) = are_bytes bytes fit.1 i

pub decodes : (bytes : List ℕ) (r : Result Packet Fault) → AreBytes bytes → r ≡ packet_of bytes → DecodesTo bytes r
decodes bytes (Ok p) fit e = whole_read bytes p fit (sym e)
decodes bytes (Err f) fit e = (λ p spells. none p (e ∙ whole_again bytes p spells), is_fault bytes (Err f) e)
  where
    none : (p : Packet) → Err f ≡ Ok p → ⊥
    none p e = absurd cc

-- the same where a packet was filled
pub found : (bytes : List ℕ) (r : Result (Unit {0}) Fault) (p : Packet) → AreBytes bytes → Gives (λ _. p) r (packet_of bytes) → OnOk r (Spells bytes p)
found bytes (Ok x) p fit e = whole_read bytes p fit e
found bytes (Err f) p fit e = tt

pub refused : (bytes : List ℕ) (r : Result (Unit {0}) Fault) (p : Packet) → AreBytes bytes → Gives (λ _. p) r (packet_of bytes) → IfErr r (λ f. DecodesTo bytes (Err f))
refused bytes (Ok x) p fit e = tt
refused bytes (Err f) p fit e = decodes bytes (Err f) fit (sym e)

pub one_result : (bytes : List ℕ) (r s : Result Packet Fault) → DecodesTo bytes r → DecodesTo bytes s → r ≡ s
one_result bytes (Ok p) (Ok q) h k = ap (λ (x : Packet). Ok x) (one_packet p q h.0 k.0 (sym h.1 ∙ k.1))
one_result bytes (Ok p) (Err f) h k = absurd (k.0 p h)
one_result bytes (Err f) (Ok p) h k = absurd (h.0 p k)
one_result bytes (Err f) (Err g) h k = ap (λ (x : Fault). Err x) (h.1 ∙ sym k.1)
