-- The parts that are due behind a front, and bytes that complete it.
use Rattle.std.proofs.Common.{◌≡◌, ℕ, zero, suc, ◌<◌, ◌≤◌, Bool, true, false, cond, eqb, ltb, leb, ◌&&◌, List, [], ◌∷◌, ◌++◌, length, replicate, None, refl, sym, subst, ◌∙◌, append_assoc, arith, length-append}
use Rattle.std.specs.Int.{w32, from_be_bytes}
use Rattle.std.specs.List.{AllByRecursion}
use Rattle.std.proofs.lemmas.Bool.{ltb-true, le-leb, leb-true, eq-eqb}
use Rattle.lg_rules.specs.Meaning.Bounds.{greatest_incarnation}
use Rattle.lg_packet.specs.declared.fault.Fault.TheVariants as faults
use Rattle.lg_packet.specs.Meaning.Fault.{Part, MagicByte, VersionByte, KindByte, LengthByte, MaybeLengthByte, NameByte, NumberByte, FamilyByte, CountByte, ClaimKindByte, IncarnationByte, most_count, is_allowed, number_parts, addr_parts, group_parts, receiver_parts, body_parts, accuser_parts, claim_parts, brought, packet_parts, due_behind, due_after, fault_of_byte, begun_incarnation, least_number, IncarnationFits}
use Rattle.lg_packet.proofs.Standing.{StandsFrom, allowed}

pub all_append : {X : Type 0} (P : X → Type 0) (xs ys : List X) → AllByRecursion P xs → AllByRecursion P ys → AllByRecursion P (xs ++ ys)
all_append P [] ys h k = k
all_append P (x ∷ xs) ys h k = (h.0, all_append P xs ys h.1 k)

-- ---- what is due can be filled

-- a magic byte is a byte, and of an incarnation a byte is missing
abbrev IsPart : Part → Type 0
IsPart (MagicByte magic) = magic < 256
IsPart (IncarnationByte before) = length before ≤ 3
IsPart _ = Unit {0}

-- an incarnation can still be at most the greatest
abbrev BegunFits : List Part → Type 0
BegunFits (IncarnationByte before ∷ parts) = least_number before ≤ greatest_incarnation
BegunFits _ = Unit {0}

-- some bytes complete the part
abbrev CanFill : Part → Type 0
CanFill part = IsPart part × BegunFits (part ∷ [])

abbrev CanFillAll : List Part → Type 0
CanFillAll parts = AllByRecursion CanFill parts

-- of no part but the first a byte is there
abbrev IsDue : List Part → Type 0
IsDue [] = Unit {0}
IsDue (part ∷ parts) = IsPart part × CanFillAll parts

due_if_filled : (parts : List Part) → CanFillAll parts → IsDue parts
due_if_filled [] h = tt
due_if_filled (part ∷ parts) h = (h.0.0, h.1)

same_parts : (n : ℕ) (part : Part) → CanFill part → CanFillAll (replicate n part)
same_parts zero part h = tt
same_parts (suc n) part h = (h, same_parts n part h)

both_parts : (some others : List Part) → CanFillAll some → CanFillAll others → CanFillAll (some ++ others)
both_parts some others h k = all_append CanFill some others h k

fill_number : CanFillAll number_parts
fill_number = same_parts 4 NumberByte (tt, tt)

fill_addr : (version : ℕ) → CanFillAll (addr_parts version)
fill_addr version = step (eqb version 3)
  where
    step : (three : Bool) → CanFillAll (cond three (FamilyByte ∷ NumberByte ∷ NumberByte ∷ []) (replicate 6 NumberByte))
    step true = ((tt, tt), ((tt, tt), ((tt, tt), tt)))
    step false = same_parts 6 NumberByte (tt, tt)

-- one part, or none
fill_some : (some : Bool) (part : Part) → CanFill part → CanFillAll (cond some (part ∷ []) [])
fill_some true part h = (h, tt)
fill_some false part h = tt

fill_group : (version : ℕ) → CanFillAll (group_parts version)
fill_group version = fill_some (eqb version 3) MaybeLengthByte (tt, tt)

fill_receiver : (version : ℕ) → CanFillAll (receiver_parts version)
fill_receiver version = fill_some (eqb version 3) LengthByte (tt, tt)

fill_body : (version kind : ℕ) → CanFillAll (body_parts version kind)
fill_body version kind = step (eqb kind 1) (eqb kind 2) (eqb kind 5) (ltb 5 kind)
  where
    step : (one two five late : Bool) → CanFillAll (cond one (number_parts ++ LengthByte ∷ []) (cond two (number_parts ++ LengthByte ∷ addr_parts version) (cond five (MaybeLengthByte ∷ []) (cond late [] (number_parts ++ receiver_parts version)))))
    step true two five late = both_parts number_parts (LengthByte ∷ []) fill_number ((tt, tt), tt)
    step false true five late = both_parts number_parts (LengthByte ∷ addr_parts version) fill_number ((tt, tt), fill_addr version)
    step false false true late = ((tt, tt), tt)
    step false false false true = tt
    step false false false false = both_parts number_parts (receiver_parts version) fill_number (fill_receiver version)

fill_accuser : (kind : ℕ) → CanFillAll (accuser_parts kind)
fill_accuser kind = step (eqb kind 2)
  where
    step : (two : Bool) → CanFillAll (cond two (LengthByte ∷ []) [])
    step true = ((tt, tt), tt)
    step false = tt

fill_claim : (version kind : ℕ) → CanFillAll (claim_parts version kind)
fill_claim version kind =
    ((tt, tt), both_parts (addr_parts version) (IncarnationByte [] ∷ accuser_parts kind) (fill_addr version) ((omega arith, omega arith), fill_accuser kind))

-- what is due behind the kind of a packet
fill_kind : (version kind : ℕ) → CanFillAll ((group_parts version ++ LengthByte ∷ body_parts version kind) ++ CountByte version ∷ [])
fill_kind version kind =
    both_parts (group_parts version ++ LengthByte ∷ body_parts version kind) (CountByte version ∷ [])
    (both_parts (group_parts version) (LengthByte ∷ body_parts version kind) (fill_group version) ((tt, tt), fill_body version kind)) ((tt, tt), tt)

-- these parts in front of others
due_both : (some parts : List Part) → CanFillAll some → CanFillAll parts → IsDue (some ++ parts)
due_both some parts h k = due_if_filled (some ++ parts) (both_parts some parts h k)

due_brought : (part : Part) (parts : List Part) (b : ℕ) → IsPart part → CanFillAll parts → IsDue (brought part b ++ parts)
due_brought (MagicByte magic) parts b h k = due_if_filled parts k
due_brought VersionByte parts b h k = (tt, k)
due_brought (KindByte version) parts b h k =
    due_both ((group_parts version ++ LengthByte ∷ body_parts version b) ++ CountByte version ∷ []) parts (fill_kind version b) k
due_brought LengthByte parts b h k = due_both (replicate b NameByte) parts (same_parts b NameByte (tt, tt)) k
due_brought MaybeLengthByte parts b h k = due_both (replicate b NameByte) parts (same_parts b NameByte (tt, tt)) k
due_brought NameByte parts b h k = due_if_filled parts k
due_brought NumberByte parts b h k = due_if_filled parts k
due_brought FamilyByte parts b h k =
    let n = cond (eqb b 4) 4 16 in
    due_both (replicate n NumberByte) parts (same_parts n NumberByte (tt, tt)) k
due_brought (CountByte version) parts b h k = due_both (replicate b (ClaimKindByte version)) parts (same_parts b (ClaimKindByte version) (tt, tt)) k
due_brought (ClaimKindByte version) parts b h k = due_both (claim_parts version b) parts (fill_claim version b) k
due_brought (IncarnationByte before) parts b h k = step (ltb (length before) 3) refl
  where
    step : (more : Bool) → ltb (length before) 3 ≡ more → IsDue (cond more (IncarnationByte (before ++ b ∷ []) ∷ []) [] ++ parts)
    step true e = (omega (arith, ltb-true (length before) 3 e, length-append before (b ∷ [])), k)
    step false e = due_if_filled parts k

due_again : (parts : List Part) (b : ℕ) → IsDue parts → IsDue (due_behind parts b)
due_again [] b h = tt
due_again (part ∷ parts) b h = due_brought part parts b h.0 h.1

due_behind_front : (parts : List Part) (front : List ℕ) → IsDue parts → IsDue (due_after parts front)
due_behind_front parts [] h = h
due_behind_front parts (b ∷ front) h = due_behind_front (due_behind parts b) front (due_again parts b h)

pub is_due : (front : List ℕ) → IsDue (due_after packet_parts front)
is_due front = due_behind_front packet_parts front (omega arith, ((omega arith, tt), ((tt, tt), tt)))

-- ---- bytes that complete what is due

-- they stand, and nothing is due behind them
abbrev pub Completes : List Part → List ℕ → Type 0
Completes parts rest = StandsFrom parts rest × (due_after parts rest ≡ []) × AllByRecursion (λ b. b < 256) rest

abbrev Completion : List Part → Type 0
Completion parts = (rest : List ℕ) × Completes parts rest

-- a byte that can stand, before what completes the parts that are due behind it
byte_before : (parts : List Part) (b : ℕ) → fault_of_byte parts b ≡ None → b < 256 → Completion (due_behind parts b) → Completion parts
byte_before parts b good low c = (b ∷ c.0, ((good, c.1.0), c.1.1, (low, c.1.2)))

fill_fourth : (a b d : ℕ) (parts : List Part) → BegunFits (IncarnationByte (a ∷ b ∷ d ∷ []) ∷ []) → Completion parts → Completion (IncarnationByte (a ∷ b ∷ d ∷ []) ∷ parts)
fill_fourth a b d parts fits c =
    byte_before (IncarnationByte (a ∷ b ∷ d ∷ []) ∷ parts) 0 (rw (le-leb (from_be_bytes w32 (a ∷ b ∷ d ∷ 0 ∷ [])) 1000000000 fits) refl) (omega arith) c

fill_incarnation : (before : List ℕ) (parts : List Part) → length before ≤ 3 → BegunFits (IncarnationByte before ∷ []) → Completion parts → Completion (IncarnationByte before ∷ parts)
fill_incarnation [] parts few fits c =
    byte_before (IncarnationByte [] ∷ parts) 0 refl (omega arith) (byte_before (IncarnationByte (0 ∷ []) ∷ parts) 0 refl (omega arith) (byte_before (IncarnationByte (0 ∷ 0 ∷ []) ∷ parts) 0 refl (omega arith) (fill_fourth 0 0 0 parts fits c)))
fill_incarnation (a ∷ []) parts few fits c =
    byte_before (IncarnationByte (a ∷ []) ∷ parts) 0 refl (omega arith) (byte_before (IncarnationByte (a ∷ 0 ∷ []) ∷ parts) 0 refl (omega arith) (fill_fourth a 0 0 parts fits c))
fill_incarnation (a ∷ b ∷ []) parts few fits c = byte_before (IncarnationByte (a ∷ b ∷ []) ∷ parts) 0 refl (omega arith) (fill_fourth a b 0 parts fits c)
fill_incarnation (a ∷ b ∷ d ∷ []) parts few fits c = fill_fourth a b d parts fits c
fill_incarnation (a ∷ b ∷ d ∷ e ∷ others) parts few fits c = absurd (omega (arith, few))

-- a name of one byte
fill_name : (parts : List Part) → Completion parts → Completion (LengthByte ∷ parts)
fill_name parts c = byte_before (LengthByte ∷ parts) 1 refl (omega arith) (byte_before (NameByte ∷ parts) 97 refl (omega arith) c)

-- numbers of this many bytes
fill_bytes : (n : ℕ) (parts : List Part) → Completion parts → Completion (replicate n NumberByte ++ parts)
fill_bytes zero parts c = c
fill_bytes (suc n) parts c = byte_before (NumberByte ∷ (replicate n NumberByte ++ parts)) 0 refl (omega arith) (fill_bytes n parts c)

-- an address of four bytes
fill_addr_bytes : (version : ℕ) (parts : List Part) → Completion parts → Completion (addr_parts version ++ parts)
fill_addr_bytes version parts c = step (eqb version 3)
  where
    step : (three : Bool) → Completion (cond three (FamilyByte ∷ NumberByte ∷ NumberByte ∷ []) (replicate 6 NumberByte) ++ parts)
    step true = byte_before (FamilyByte ∷ NumberByte ∷ NumberByte ∷ parts) 4 refl (omega arith) (fill_bytes 6 parts c)
    step false = fill_bytes 6 parts c

-- no group
fill_group_byte : (version : ℕ) (parts : List Part) → Completion parts → Completion (group_parts version ++ parts)
fill_group_byte version parts c = step (eqb version 3)
  where
    step : (three : Bool) → Completion (cond three (MaybeLengthByte ∷ []) [] ++ parts)
    step true = byte_before (MaybeLengthByte ∷ parts) 0 refl (omega arith) c
    step false = c

no_claims : (version : ℕ) (parts : List Part) → Completion parts → Completion (CountByte version ∷ parts)
no_claims version parts c = byte_before (CountByte version ∷ parts) 0 (rw (le-leb 0 (most_count version) (omega arith)) refl) (omega arith) c

page_allowed : (version : ℕ) → is_allowed (KindByte version) 6 ≡ true
page_allowed version = step (eqb version 3)
  where
    step : (three : Bool) → (leb 1 6 && leb 6 (cond three 7 6)) ≡ true
    step true = refl
    step false = refl

-- a Page, which has no claims
fill_page : (version : ℕ) (parts : List Part) → Completion parts → Completion (KindByte version ∷ parts)
fill_page version parts c =
    let group = group_parts version in
    let sender = LengthByte ∷ [] in
    let count = CountByte version ∷ [] in
    let others : Completion (group ++ (sender ++ (count ++ parts))) = fill_group_byte version (sender ++ (count ++ parts)) (fill_name (count ++ parts) (no_claims version parts c)) in
    byte_before (KindByte version ∷ parts) 6 (rw (page_allowed version) refl) (omega arith)
    (subst Completion (sym (append_assoc (group ++ sender) count parts ∙ append_assoc group sender (count ++ parts))) others)

alive_allowed : (version : ℕ) → is_allowed (ClaimKindByte version) 1 ≡ true
alive_allowed version = step (eqb version 3)
  where
    step : (three : Bool) → (leb 1 1 && leb 1 (cond three 4 3)) ≡ true
    step true = refl
    step false = refl

-- a claim that a member is alive
fill_alive : (version : ℕ) (parts : List Part) → Completion parts → Completion (ClaimKindByte version ∷ parts)
fill_alive version parts c =
    let behind = IncarnationByte [] ∷ [] in
    let others : Completion (addr_parts version ++ (behind ++ parts)) = fill_addr_bytes version (behind ++ parts) (fill_incarnation [] parts (omega arith) (omega arith) c) in
    byte_before (ClaimKindByte version ∷ parts) 1 (rw (alive_allowed version) refl) (omega arith)
    (fill_name ((addr_parts version ++ behind) ++ parts) (subst Completion (sym (append_assoc (addr_parts version) behind parts)) others))

fill : (part : Part) (parts : List Part) → CanFill part → Completion parts → Completion (part ∷ parts)
fill (MagicByte magic) parts h c = byte_before (MagicByte magic ∷ parts) magic (rw (eq-eqb magic magic refl) refl) h.0 c
fill VersionByte parts h c = byte_before (VersionByte ∷ parts) 1 refl (omega arith) (fill_page 1 parts c)
fill (KindByte version) parts h c = fill_page version parts c
fill LengthByte parts h c = fill_name parts c
fill MaybeLengthByte parts h c = byte_before (MaybeLengthByte ∷ parts) 0 refl (omega arith) c
fill NameByte parts h c = byte_before (NameByte ∷ parts) 97 refl (omega arith) c
fill NumberByte parts h c = byte_before (NumberByte ∷ parts) 0 refl (omega arith) c
fill FamilyByte parts h c = byte_before (FamilyByte ∷ parts) 4 refl (omega arith) (fill_bytes 4 parts c)
fill (CountByte version) parts h c = no_claims version parts c
fill (ClaimKindByte version) parts h c = fill_alive version parts c
fill (IncarnationByte before) parts h c = fill_incarnation before parts h.0 h.1 c

fill_all : (parts : List Part) → CanFillAll parts → Completion parts
fill_all [] h = ([], (tt, refl, tt))
fill_all (part ∷ parts) h = fill part parts h.0 (fill_all parts h.1)

-- what is due can be filled if an incarnation that is begun can still fit
can_fill : (parts : List Part) → IsDue parts → BegunFits parts → CanFillAll parts
can_fill [] h fits = tt
can_fill (MagicByte magic ∷ parts) h fits = ((h.0, tt), h.1)
can_fill (IncarnationByte before ∷ parts) h fits = ((h.0, fits), h.1)
can_fill (part ∷ parts) h fits = ((h.0, fits), h.1)

begun_fits : (parts : List Part) → least_number (begun_incarnation parts) ≤ greatest_incarnation → BegunFits parts
begun_fits [] h = tt
begun_fits (IncarnationByte before ∷ parts) h = h
begun_fits (part ∷ parts) h = tt

pub completion : (front : List ℕ) → IncarnationFits front → (rest : List ℕ) × Completes (due_after packet_parts front) rest
completion front fits =
    let parts = due_after packet_parts front in
    fill_all parts (can_fill parts (is_due front) (begun_fits parts fits))

-- ---- what completes a front makes its incarnation fit

fourth_fits : (a b d : ℕ) (parts : List Part) (rest : List ℕ) → StandsFrom (IncarnationByte (a ∷ b ∷ d ∷ []) ∷ parts) rest → due_after (IncarnationByte (a ∷ b ∷ d ∷ []) ∷ parts) rest ≡ [] → BegunFits (IncarnationByte (a ∷ b ∷ d ∷ []) ∷ [])
fourth_fits a b d parts [] stands none = absurd cc
fourth_fits a b d parts (e ∷ rest) stands none =
    let low : leb (from_be_bytes w32 (a ∷ b ∷ d ∷ e ∷ [])) 1000000000 ≡ true = allowed (leb (from_be_bytes w32 (a ∷ b ∷ d ∷ e ∷ [])) 1000000000) faults.Incarnation stands.0 in
    omega (arith, leb-true (from_be_bytes w32 (a ∷ b ∷ d ∷ e ∷ [])) 1000000000 low)

third_fits : (a b : ℕ) (parts : List Part) (rest : List ℕ) → StandsFrom (IncarnationByte (a ∷ b ∷ []) ∷ parts) rest → due_after (IncarnationByte (a ∷ b ∷ []) ∷ parts) rest ≡ [] → BegunFits (IncarnationByte (a ∷ b ∷ []) ∷ [])
third_fits a b parts [] stands none = absurd cc
third_fits a b parts (d ∷ rest) stands none = omega (arith, fourth_fits a b d parts rest stands.1 none)

second_fits : (a : ℕ) (parts : List Part) (rest : List ℕ) → StandsFrom (IncarnationByte (a ∷ []) ∷ parts) rest → due_after (IncarnationByte (a ∷ []) ∷ parts) rest ≡ [] → BegunFits (IncarnationByte (a ∷ []) ∷ [])
second_fits a parts [] stands none = absurd cc
second_fits a parts (b ∷ rest) stands none = omega (arith, third_fits a b parts rest stands.1 none)

bytes_fit : (before : List ℕ) (parts : List Part) (rest : List ℕ) → length before ≤ 3 → StandsFrom (IncarnationByte before ∷ parts) rest → due_after (IncarnationByte before ∷ parts) rest ≡ [] → BegunFits (IncarnationByte before ∷ [])
bytes_fit [] parts rest few stands none = omega arith
bytes_fit (a ∷ []) parts rest few stands none = second_fits a parts rest stands none
bytes_fit (a ∷ b ∷ []) parts rest few stands none = third_fits a b parts rest stands none
bytes_fit (a ∷ b ∷ d ∷ []) parts rest few stands none = fourth_fits a b d parts rest stands none
bytes_fit (a ∷ b ∷ d ∷ e ∷ others) parts rest few stands none = absurd (omega (arith, few))

front_fits : (parts : List Part) (rest : List ℕ) → IsDue parts → StandsFrom parts rest → due_after parts rest ≡ [] → least_number (begun_incarnation parts) ≤ greatest_incarnation
front_fits [] rest h stands none = omega arith
front_fits (IncarnationByte before ∷ parts) rest h stands none = bytes_fit before parts rest h.0 stands none
front_fits (part ∷ parts) rest h stands none = omega arith

pub incarnation_fits : (front rest : List ℕ) → StandsFrom (due_after packet_parts front) rest → due_after (due_after packet_parts front) rest ≡ [] → IncarnationFits front
incarnation_fits front rest stands none = front_fits (due_after packet_parts front) rest (is_due front) stands none
