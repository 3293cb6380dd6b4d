-- Bytes that stand, and what is due behind them.
use Rattle.std.proofs.Common.{◌≡◌, ℕ, Bool, true, false, cond, List, [], ◌∷◌, ◌++◌, Some, None, refl, sym, ap, subst, ◌∙◌, append_assoc}
use Rattle.std.proofs.lemmas.List.{append-nil}
use Rattle.lg_packet.specs.declared.fault.Fault.{Fault}
use Rattle.lg_packet.specs.declared.fault.Fault.TheVariants as faults
use Rattle.lg_packet.specs.declared.packet.Packet.{Packet}
use Rattle.lg_packet.specs.Meaning.Spelling.{spelling, IsPacket}
use Rattle.lg_packet.specs.Meaning.Fault.{Part, MagicByte, VersionByte, KindByte, LengthByte, MaybeLengthByte, NameByte, NumberByte, FamilyByte, CountByte, ClaimKindByte, IncarnationByte, is_allowed, fault_at, brought, packet_parts, due_behind, due_after, fault_of_byte, fault_behind, Stands}
use Rattle.lg_packet.proofs.Outcomes.{fault_or}
use Rattle.lg_packet.proofs.Packets.{packet_again}
use Rattle.lg_packet.proofs.PacketPlaces.{packet_fault}
use Rattle.lg_packet.proofs.Places.{fault_from, due_after-push}

-- each byte can stand where it stands, the first of them where these parts are due
abbrev pub StandsFrom : List Part → List ℕ → Type 0
StandsFrom parts [] = Unit {0}
StandsFrom parts (b ∷ bytes) = (fault_of_byte parts b ≡ None) × StandsFrom (due_behind parts b) bytes

-- ---- the two ways to say that bytes stand

behind_past : (past front : List ℕ) → ((before after : List ℕ) (b : ℕ) → before ++ b ∷ after ≡ front → fault_of_byte (due_after packet_parts (past ++ before)) b ≡ None) → StandsFrom (due_after packet_parts past) front
behind_past past [] stands = tt
behind_past past (a ∷ front) stands =
    let here : fault_of_byte (due_after packet_parts past) a ≡ None = ap (λ (p : List ℕ). fault_of_byte (due_after packet_parts p) a) (sym (append-nil past)) ∙ stands [] front a refl in
    let later = behind_past (past ++ a ∷ []) front (λ before after c e. ap (λ (p : List ℕ). fault_of_byte (due_after packet_parts p) c) (append_assoc past (a ∷ []) before) ∙ stands (a ∷ before) after c (ap (λ (l : List ℕ). a ∷ l) e)) in
    (here, subst (λ (parts : List Part). StandsFrom parts front) (due_after-push past packet_parts a) later)

pub from_first : (front : List ℕ) → Stands front → StandsFrom packet_parts front
unfolding fault_behind
from_first front stands = behind_past [] front stands

at_place : (parts : List Part) (before after : List ℕ) (b : ℕ) → StandsFrom parts (before ++ b ∷ after) → fault_of_byte (due_after parts before) b ≡ None
at_place parts [] after b h = h.0
at_place parts (a ∷ before) after b h = at_place (due_behind parts a) before after b h.1

pub each_stands : (front : List ℕ) → StandsFrom packet_parts front → Stands front
unfolding fault_behind
each_stands front h = λ before after b e. at_place packet_parts before after b (subst (StandsFrom packet_parts) (sym e) h)

-- ---- a front and the rest

pub front_stands : (parts : List Part) (front rest : List ℕ) → StandsFrom parts (front ++ rest) → StandsFrom parts front
front_stands parts [] rest h = tt
front_stands parts (b ∷ front) rest h = (h.0, front_stands (due_behind parts b) front rest h.1)

pub rest_stands : (parts : List Part) (front rest : List ℕ) → StandsFrom parts (front ++ rest) → StandsFrom (due_after parts front) rest
rest_stands parts [] rest h = h
rest_stands parts (b ∷ front) rest h = rest_stands (due_behind parts b) front rest h.1

pub both_stand : (parts : List Part) (front rest : List ℕ) → StandsFrom parts front → StandsFrom (due_after parts front) rest → StandsFrom parts (front ++ rest)
both_stand parts [] rest h k = k
both_stand parts (b ∷ front) rest h k = (h.0, both_stand (due_behind parts b) front rest h.1 k)

pub due_after-append : (parts : List Part) (front rest : List ℕ) → due_after parts (front ++ rest) ≡ due_after (due_after parts front) rest
due_after-append parts [] rest = refl
due_after-append parts (b ∷ front) rest = due_after-append (due_behind parts b) front rest

-- ---- faults

pub allowed : (good : Bool) (f : Fault) → cond good None (Some f) ≡ None → good ≡ true
allowed true f e = refl
allowed false f e = absurd cc

-- behind bytes that stand, the fault is that of the rest
pub fault_of_rest : (parts : List Part) (bytes rest : List ℕ) → StandsFrom parts bytes → fault_from (bytes ++ rest) parts ≡ fault_from rest (due_after parts bytes)
fault_of_rest parts [] rest h = refl
fault_of_rest [] (b ∷ bytes) rest h = absurd (no_part h.0)
  where
    no_part : Some faults.Trailing ≡ None → ⊥
    no_part e = cc
fault_of_rest (part ∷ parts) (b ∷ bytes) rest h =
    rw (allowed (is_allowed part b) (fault_at part) h.0) (fault_of_rest (brought part b ++ parts) bytes rest h.1)

-- the fault of a byte isn't that none is there
not_short : (part : Part) (b : ℕ) → is_allowed part b ≡ false → fault_at part ≡ faults.Short → ⊥
not_short (MagicByte magic) b bad e = cc
not_short VersionByte b bad e = cc
not_short (KindByte version) b bad e = cc
not_short LengthByte b bad e = cc
not_short MaybeLengthByte b bad e = cc
not_short NameByte b bad e = cc
not_short NumberByte b bad e = cc
not_short FamilyByte b bad e = cc
not_short (CountByte version) b bad e = cc
not_short (ClaimKindByte version) b bad e = cc
not_short (IncarnationByte before) b bad e = cc

pub short_stands : (parts : List Part) (bytes : List ℕ) → fault_from bytes parts ≡ faults.Short → StandsFrom parts bytes
short_stands parts [] h = tt
short_stands [] (b ∷ bytes) h = absurd (no_part h)
  where
    no_part : faults.Trailing ≡ faults.Short → ⊥
    no_part e = cc
short_stands (part ∷ parts) (b ∷ bytes) h = step (is_allowed part b) refl (short_stands (brought part b ++ parts) bytes) h
  where
    step : (good : Bool) → is_allowed part b ≡ good → (fault_from bytes (brought part b ++ parts) ≡ faults.Short → StandsFrom (brought part b ++ parts) bytes)
        → cond good (fault_from bytes (brought part b ++ parts)) (fault_at part) ≡ faults.Short → StandsFrom (part ∷ parts) (b ∷ bytes)
    step true e later f = (rw e refl, later f)
    step false e later f = absurd (not_short part b e f)

-- a byte is one too many only if nothing is due
pub nothing_due : (parts : List Part) → fault_from (0 ∷ []) parts ≡ faults.Trailing → parts ≡ []
nothing_due [] h = refl
nothing_due (part ∷ parts) h = absurd (not_trailing part (is_allowed part 0) h)
  where
    not_trailing : (part : Part) (good : Bool) → cond good faults.Short (fault_at part) ≡ faults.Trailing → ⊥
    not_trailing part true e = cc
    not_trailing (MagicByte magic) false e = cc
    not_trailing VersionByte false e = cc
    not_trailing (KindByte version) false e = cc
    not_trailing LengthByte false e = cc
    not_trailing MaybeLengthByte false e = cc
    not_trailing NameByte false e = cc
    not_trailing NumberByte false e = cc
    not_trailing FamilyByte false e = cc
    not_trailing (CountByte version) false e = cc
    not_trailing (ClaimKindByte version) false e = cc
    not_trailing (IncarnationByte before) false e = cc

-- ---- spellings

-- the fault of a spelling and what stands behind it
pub behind_spelling : (p : Packet) (rest : List ℕ) → IsPacket p → fault_from (spelling p ++ rest) packet_parts ≡ fault_from rest []
behind_spelling p rest fit =
    packet_fault (spelling p ++ rest) ∙ ap (fault_or (λ (x : Packet × List ℕ). fault_from x.1 [])) (packet_again p rest fit)

pub spelling_stands : (p : Packet) → IsPacket p → StandsFrom packet_parts (spelling p)
spelling_stands p fit = short_stands packet_parts (spelling p) (ap (λ (bytes : List ℕ). fault_from bytes packet_parts) (sym (append-nil (spelling p))) ∙ behind_spelling p [] fit)

pub spelling_whole : (p : Packet) → IsPacket p → due_after packet_parts (spelling p) ≡ []
spelling_whole p fit =
    nothing_due (due_after packet_parts (spelling p)) (sym (fault_of_rest packet_parts (spelling p) (0 ∷ []) (spelling_stands p fit)) ∙ behind_spelling p (0 ∷ []) fit)
