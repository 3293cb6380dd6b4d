-- A front begins a spelling exactly if it stands and an incarnation that it ends in can still fit.
use Rattle.std.proofs.Common.{◌≡◌, ℕ, ◌<◌, ◌⊎◌, inl, inr, List, [], ◌∷◌, ◌++◌, Result, Ok, Err, refl, sym, ap, ap₂, subst, ◌∙◌, arith}
use Rattle.std.specs.List.{AllByRecursion}
use Rattle.std.proofs.lemmas.List.{append-nil}
use Rattle.lg_packet.specs.declared.fault.Fault.{Fault}
use Rattle.lg_packet.specs.declared.fault.Fault.TheVariants as faults
use Rattle.lg_packet.specs.declared.packet.Packet.{Packet}
use Rattle.lg_packet.specs.Meaning.Spelling.{spelling, IsPacket, Spells, BeginsSpelling}
use Rattle.lg_packet.specs.Meaning.Reading.{packet_at}
use Rattle.lg_packet.specs.Meaning.Fault.{packet_parts, due_after, Stands, IncarnationFits}
use Rattle.lg_packet.proofs.Outcomes.{fault_or}
use Rattle.lg_packet.proofs.Packets.{packet_read}
use Rattle.lg_packet.proofs.PacketPlaces.{packet_fault}
use Rattle.lg_packet.proofs.Places.{fault_from}
use Rattle.lg_packet.proofs.DecodingLaws.{are_bytes}
use Rattle.lg_packet.proofs.Standing.{StandsFrom, from_first, each_stands, front_stands, rest_stands, both_stand, due_after-append, fault_of_rest, behind_spelling, spelling_stands, spelling_whole}
use Rattle.lg_packet.proofs.Completing.{all_append, completion, incarnation_fits}
use Rattle.lg_packet.proofs.NeverTrailing.{IsOther, NotTrailing, packet_goes}

-- ---- the front of a spelling

pub begins_stands : (front : List ℕ) → BeginsSpelling front → Stands front
begins_stands front begins =
    each_stands front (front_stands packet_parts front begins.1 (subst (StandsFrom packet_parts) (sym begins.2.1) (spelling_stands begins.0 begins.2.0)))

pub begins_fits : (front : List ℕ) → BeginsSpelling front → IncarnationFits front
begins_fits front begins =
    let whole : due_after packet_parts (front ++ begins.1) ≡ [] = ap (due_after packet_parts) begins.2.1 ∙ spelling_whole begins.0 begins.2.0 in
    let stands : StandsFrom packet_parts (front ++ begins.1) = subst (StandsFrom packet_parts) (sym begins.2.1) (spelling_stands begins.0 begins.2.0) in
    incarnation_fits front begins.1 (rest_stands packet_parts front begins.1 stands) (sym (due_after-append packet_parts front begins.1) ∙ whole)

-- ---- bytes that stand, and behind which nothing is due, spell a packet

-- one list with a byte behind it is another with bytes behind it
same_or_longer : (xs ys : List ℕ) (a b : ℕ) (more : List ℕ) → xs ++ a ∷ [] ≡ ys ++ b ∷ more → (xs ≡ ys) ⊎ ((tail : List ℕ) × (xs ≡ ys ++ b ∷ tail))
same_or_longer [] [] a b more e = inl refl
same_or_longer [] (y ∷ []) a b more e = absurd cc
same_or_longer [] (y ∷ z ∷ ys) a b more e = absurd cc
same_or_longer (x ∷ xs) [] a b more e = inr (xs, ap (λ (c : ℕ). c ∷ xs) first)
  where
    first : x ≡ b
    first = cc
same_or_longer (x ∷ xs) (y ∷ ys) a b more e = step (same_or_longer xs ys a b more rest)
  where
    first : x ≡ y
    first = cc

    rest : xs ++ a ∷ [] ≡ ys ++ b ∷ more
    rest = cc

    step : (xs ≡ ys) ⊎ ((tail : List ℕ) × (xs ≡ ys ++ b ∷ tail)) → (x ∷ xs ≡ y ∷ ys) ⊎ ((tail : List ℕ) × (x ∷ xs ≡ y ∷ ys ++ b ∷ tail))
    step (inl same) = inl (ap₂ (λ (c : ℕ) (l : List ℕ). c ∷ l) first same)
    step (inr longer) = inr (longer.0, ap₂ (λ (c : ℕ) (l : List ℕ). c ∷ l) first longer.1)

different : {A : Type 0} → faults.Short ≡ faults.Trailing → A
different e = absurd cc

-- with one byte more, they are a packet's spelling and that byte
ended : (bytes : List ℕ) (p : Packet) (left : List ℕ) → AllByRecursion (λ b. b < 256) bytes → fault_from bytes packet_parts ≡ faults.Short → packet_at (bytes ++ 0 ∷ []) ≡ Ok (p, left) → fault_from left [] ≡ faults.Trailing → (q : Packet) × Spells bytes q
ended bytes p [] fit short read trailing = different trailing
ended bytes p (c ∷ more) fit short read trailing = step (same_or_longer bytes (spelling p) 0 c more whole.1)
  where
    whole : IsPacket p × (bytes ++ 0 ∷ [] ≡ spelling p ++ c ∷ more)
    whole = packet_read (bytes ++ 0 ∷ []) (p, c ∷ more) (are_bytes (bytes ++ 0 ∷ []) (all_append (λ b. b < 256) bytes (0 ∷ []) fit (omega arith, tt))) read

    step : (bytes ≡ spelling p) ⊎ ((tail : List ℕ) × (bytes ≡ spelling p ++ c ∷ tail)) → (q : Packet) × Spells bytes q
    step (inl same) = (p, (whole.0, same))
    step (inr longer) = different (sym short ∙ ap (λ (t : List ℕ). fault_from t packet_parts) longer.1 ∙ behind_spelling p (c ∷ longer.0) whole.0)

spelled : (bytes : List ℕ) (r : Result (Packet × List ℕ) Fault) → AllByRecursion (λ b. b < 256) bytes → fault_from bytes packet_parts ≡ faults.Short → packet_at (bytes ++ 0 ∷ []) ≡ r → NotTrailing r
    → fault_or (λ (x : Packet × List ℕ). fault_from x.1 []) r ≡ faults.Trailing → (q : Packet) × Spells bytes q
spelled bytes (Ok x) fit short read goes trailing = ended bytes x.0 x.1 fit short read trailing
spelled bytes (Err f) fit short read goes trailing = absurd (subst IsOther trailing goes)

whole : (bytes : List ℕ) → AllByRecursion (λ b. b < 256) bytes → StandsFrom packet_parts bytes → due_after packet_parts bytes ≡ [] → (p : Packet) × Spells bytes p
whole bytes fit stands none =
    let short : fault_from bytes packet_parts ≡ faults.Short = ap (λ (t : List ℕ). fault_from t packet_parts) (sym (append-nil bytes)) ∙ fault_of_rest packet_parts bytes [] stands in
    let trailing : fault_or (λ (x : Packet × List ℕ). fault_from x.1 []) (packet_at (bytes ++ 0 ∷ [])) ≡ faults.Trailing = sym (packet_fault (bytes ++ 0 ∷ [])) ∙ fault_of_rest packet_parts bytes (0 ∷ []) stands ∙ ap (fault_from (0 ∷ [])) none in
    spelled bytes (packet_at (bytes ++ 0 ∷ [])) fit short refl (packet_goes (bytes ++ 0 ∷ [])) trailing

pub stands_begins : (front : List ℕ) → AllByRecursion (λ b. b < 256) front → Stands front → IncarnationFits front → BeginsSpelling front
stands_begins front fit stands incarnation =
    let from = from_first front stands in
    let rest = completion front incarnation in
    let found = whole (front ++ rest.0) (all_append (λ b. b < 256) front rest.0 fit rest.1.2) (both_stand packet_parts front rest.0 from rest.1.0) (due_after-append packet_parts front rest.0 ∙ rest.1.1) in
    (found.0, rest.0, found.1)
