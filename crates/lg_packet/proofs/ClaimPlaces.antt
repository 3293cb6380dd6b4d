-- The first fault of claims, by their places and as they are read.
use Rattle.std.proofs.Common.{◌≡◌, ℕ, zero, suc, Bool, true, false, cond, eqb, ltb, leb, ◌&&◌, ◌≤◌, List, [], ◌∷◌, ◌++◌, replicate, Ok, Err, refl, sym, ap, subst, ◌∙◌, append_assoc, arith}
use Rattle.std.specs.Int.{w32, from_be_bytes}
use Rattle.std.proofs.lemmas.Bool.{leb-true, eqb-true, eqb-false}
use Rattle.lg_rules.specs.declared.addr.Addr.{Addr}
use Rattle.lg_rules.specs.declared.claim.Claim.{Claim}
use Rattle.lg_rules.specs.declared.claim.Status.{Status}
use Rattle.lg_rules.specs.declared.claim.Status.TheVariants.{Suspect}
use Rattle.lg_rules.specs.declared.version.Version.{Version}
use Rattle.lg_rules.specs.declared.version.Version.TheVariants as versions
use Rattle.lg_packet.specs.declared.fault.Fault.TheVariants as faults
use Rattle.lg_packet.specs.declared.kind.ClaimKind.{ClaimKind}
use Rattle.lg_packet.specs.declared.kind.ClaimKind.TheVariants as claims
use Rattle.lg_packet.specs.Meaning.Spelling.{byte_of_claim_kind, byte_of_version}
use Rattle.lg_packet.specs.Meaning.Reading.{◌>>=◌, name_at, addr_at, incarnation_at, claim_kind_at, status_at, claim_at, claims_at}
use Rattle.lg_packet.specs.Meaning.Fault.{Part, LengthByte, ClaimKindByte, IncarnationByte, most_claim_kind, addr_parts, accuser_parts, claim_parts}
use Rattle.lg_packet.proofs.Outcomes.{fault_or, fault_then}
use Rattle.lg_packet.proofs.Fields.{number_there}
use Rattle.lg_packet.proofs.Places.{fault_from}
use Rattle.lg_packet.proofs.FieldPlaces.{name_fault, addr_fault, at_most, fault_of_test}

few_claim_kinds : (v : Version) → most_claim_kind (byte_of_version v) ≤ 4
few_claim_kinds versions.One = omega arith
few_claim_kinds versions.Two = omega arith
few_claim_kinds versions.Three = omega arith

-- a kind of claim is 1 to 4
no_claim_kind : (b most : ℕ) → most ≤ 4 → eqb b 1 ≡ false → eqb b 2 ≡ false → eqb b 3 ≡ false → eqb b 4 ≡ false → (leb 1 b && leb b most) ≡ false
no_claim_kind b most few one two three four = step (leb 1 b) refl (leb b most) refl
  where
    step : (low : Bool) → leb 1 b ≡ low → (high : Bool) → leb b most ≡ high → (low && high) ≡ false
    step true h true k = absurd (omega (arith, few, leb-true 1 b h, leb-true b most k, eqb-false b 1 one, eqb-false b 2 two, eqb-false b 3 three, eqb-false b 4 four))
    step true h false k = refl
    step false h high k = refl

-- what is due behind the kind of a claim
abbrev behind_kind : Version → List Part → ClaimKind → List Part
behind_kind v parts kind = claim_parts (byte_of_version v) (byte_of_claim_kind kind) ++ parts

-- reading the kind of a claim and looking at its place come to the same for this byte
abbrev SameClaimKind : Version → List Part → List ℕ → ℕ → Type 0
SameClaimKind v parts bytes n = fault_from (n ∷ bytes) (ClaimKindByte (byte_of_version v) ∷ parts) ≡ fault_or (λ (x : ClaimKind × List ℕ). fault_from x.1 (behind_kind v parts x.0)) (claim_kind_at v (n ∷ bytes))

same_claim_kind : (v : Version) (parts : List Part) (bytes : List ℕ) (kind : ClaimKind) → SameClaimKind v parts bytes (byte_of_claim_kind kind)
same_claim_kind versions.One parts bytes claims.Alive = refl
same_claim_kind versions.One parts bytes claims.Suspect = refl
same_claim_kind versions.One parts bytes claims.Failed = refl
same_claim_kind versions.One parts bytes claims.Left = refl
same_claim_kind versions.Two parts bytes claims.Alive = refl
same_claim_kind versions.Two parts bytes claims.Suspect = refl
same_claim_kind versions.Two parts bytes claims.Failed = refl
same_claim_kind versions.Two parts bytes claims.Left = refl
same_claim_kind versions.Three parts bytes claims.Alive = refl
same_claim_kind versions.Three parts bytes claims.Suspect = refl
same_claim_kind versions.Three parts bytes claims.Failed = refl
same_claim_kind versions.Three parts bytes claims.Left = refl

claim_kind_fault : (v : Version) (parts : List Part) (bytes : List ℕ) → fault_from bytes (ClaimKindByte (byte_of_version v) ∷ parts) ≡ fault_or (λ (x : ClaimKind × List ℕ). fault_from x.1 (behind_kind v parts x.0)) (claim_kind_at v bytes)
claim_kind_fault v parts [] = refl
claim_kind_fault v parts (b ∷ bytes) = step (eqb b 1) refl (eqb b 2) refl (eqb b 3) refl (eqb b 4) refl
  where
    is : (kind : ClaimKind) → eqb b (byte_of_claim_kind kind) ≡ true → SameClaimKind v parts bytes b
    is kind h = subst (SameClaimKind v parts bytes) (sym (eqb-true b (byte_of_claim_kind kind) h)) (same_claim_kind v parts bytes kind)

    step : (one : Bool) → eqb b 1 ≡ one → (two : Bool) → eqb b 2 ≡ two → (three : Bool) → eqb b 3 ≡ three → (four : Bool) → eqb b 4 ≡ four → SameClaimKind v parts bytes b
    step true h two i three j four k = is claims.Alive h
    step false h true i three j four k = is claims.Suspect i
    step false h false i true j four k = is claims.Failed j
    step false h false i false j true k = is claims.Left k
    step false h false i false j false k = rw (no_claim_kind b (most_claim_kind (byte_of_version v)) (few_claim_kinds v) h i j k, h, i, j, k) refl

incarnation_fault : (parts : List Part) (bytes : List ℕ) → fault_from bytes (IncarnationByte [] ∷ parts) ≡ fault_or (λ (x : ℕ × List ℕ). fault_from x.1 parts) (incarnation_at bytes)
unfolding incarnation_at
incarnation_fault parts [] = refl
incarnation_fault parts (a ∷ []) = refl
incarnation_fault parts (a ∷ b ∷ []) = refl
incarnation_fault parts (a ∷ b ∷ c ∷ []) = refl
incarnation_fault parts (a ∷ b ∷ c ∷ d ∷ rest) =
    let n = from_be_bytes w32 (a ∷ b ∷ c ∷ d ∷ []) in
    let on = λ (x : ℕ × List ℕ). fault_from x.1 parts in
    at_most n 1000000000 (fault_from rest parts) faults.Incarnation
    ∙ sym (fault_of_test (ltb 1000000000 n) faults.Incarnation (n, rest) on)
    ∙ sym (ap (λ r. fault_or on (r >>= λ (number : ℕ × List ℕ). cond (ltb 1000000000 number.0) (Err faults.Incarnation) (Ok number))) (number_there a b c d rest))

status_fault : (kind : ClaimKind) (parts : List Part) (bytes : List ℕ) → fault_from bytes (accuser_parts (byte_of_claim_kind kind) ++ parts) ≡ fault_or (λ (x : Status × List ℕ). fault_from x.1 parts) (status_at kind bytes)
unfolding status_at
status_fault claims.Alive parts bytes = refl
status_fault claims.Suspect parts bytes =
    name_fault parts bytes
    ∙ fault_then (name_at bytes) (λ accuser. Ok (Suspect accuser.0, accuser.1)) (λ (x : List ℕ × List ℕ). fault_from x.1 parts) (λ (x : Status × List ℕ). fault_from x.1 parts) (λ accuser. refl)
status_fault claims.Failed parts bytes = refl
status_fault claims.Left parts bytes = refl

claim_fault : (v : Version) (parts : List Part) (bytes : List ℕ) → fault_from bytes (ClaimKindByte (byte_of_version v) ∷ parts) ≡ fault_or (λ (x : Claim × List ℕ). fault_from x.1 parts) (claim_at v bytes)
unfolding claim_at
claim_fault v parts bytes =
    let on = λ (x : Claim × List ℕ). fault_from x.1 parts in
    claim_kind_fault v parts bytes
    ∙ fault_then (claim_kind_at v bytes) (λ kind. name_at kind.1 >>= λ name. addr_at v name.1 >>= λ addr. incarnation_at addr.1 >>= λ incarnation. status_at kind.0 incarnation.1 >>= λ status.
    Ok (record { name = name.0; addr = addr.0; status = status.0; incarnation = incarnation.0 }, status.1))
    (λ (x : ClaimKind × List ℕ). fault_from x.1 (behind_kind v parts x.0)) on (λ kind.
    let after_addr = IncarnationByte [] ∷ (accuser_parts (byte_of_claim_kind kind.0) ++ parts) in
    let after_name = addr_parts (byte_of_version v) ++ after_addr in
    ap (λ (due : List Part). fault_from kind.1 (LengthByte ∷ due)) (append_assoc (addr_parts (byte_of_version v)) (IncarnationByte [] ∷ accuser_parts (byte_of_claim_kind kind.0)) parts)
    ∙ name_fault after_name kind.1
    ∙ fault_then (name_at kind.1) (λ name. addr_at v name.1 >>= λ addr. incarnation_at addr.1 >>= λ incarnation. status_at kind.0 incarnation.1 >>= λ status.
    Ok (record { name = name.0; addr = addr.0; status = status.0; incarnation = incarnation.0 }, status.1))
    (λ (x : List ℕ × List ℕ). fault_from x.1 after_name) on (λ name.
    addr_fault v after_addr name.1
    ∙ fault_then (addr_at v name.1) (λ addr. incarnation_at addr.1 >>= λ incarnation. status_at kind.0 incarnation.1 >>= λ status.
    Ok (record { name = name.0; addr = addr.0; status = status.0; incarnation = incarnation.0 }, status.1))
    (λ (x : Addr × List ℕ). fault_from x.1 after_addr) on (λ addr.
    incarnation_fault (accuser_parts (byte_of_claim_kind kind.0) ++ parts) addr.1
    ∙ fault_then (incarnation_at addr.1) (λ incarnation. status_at kind.0 incarnation.1 >>= λ status. Ok (record { name = name.0; addr = addr.0; status = status.0; incarnation = incarnation.0 }, status.1))
    (λ (x : ℕ × List ℕ). fault_from x.1 (accuser_parts (byte_of_claim_kind kind.0) ++ parts)) on (λ incarnation.
    status_fault kind.0 parts incarnation.1
    ∙ fault_then (status_at kind.0 incarnation.1) (λ status. Ok (record { name = name.0; addr = addr.0; status = status.0; incarnation = incarnation.0 }, status.1)) (λ (x : Status × List ℕ). fault_from x.1 parts) on (λ status. refl)))))

pub claims_fault : (v : Version) (n : ℕ) (parts : List Part) (bytes : List ℕ) → fault_from bytes (replicate n (ClaimKindByte (byte_of_version v)) ++ parts) ≡ fault_or (λ (x : List Claim × List ℕ). fault_from x.1 parts) (claims_at v n bytes)
unfolding claims_at
claims_fault v zero parts bytes = refl
claims_fault v (suc n) parts bytes =
    let on = λ (x : List Claim × List ℕ). fault_from x.1 parts in
    let more = replicate n (ClaimKindByte (byte_of_version v)) ++ parts in
    claim_fault v more bytes
    ∙ fault_then (claim_at v bytes) (λ first. claims_at v n first.1 >>= λ others. Ok (first.0 ∷ others.0, others.1)) (λ (x : Claim × List ℕ). fault_from x.1 more) on (λ first.
    claims_fault v n parts first.1
    ∙ fault_then (claims_at v n first.1) (λ others. Ok (first.0 ∷ others.0, others.1)) (λ (x : List Claim × List ℕ). fault_from x.1 parts) on (λ others. refl))
