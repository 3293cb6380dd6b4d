-- The fields of claims: what is read is spelled so, and what is spelled so is read again.
use Rattle.std.proofs.Common.{◌≡◌, ℕ, zero, suc, ◌≤◌, Bool, true, false, cond, eqb, ltb, List, [], ◌∷◌, ◌++◌, length, Some, None, Ok, Err, refl, sym, ap, subst, ◌∙◌, append_assoc, arith}
use Rattle.std.specs.Int.{w32}
use Rattle.std.specs.List.{flat_map, AllByRecursion}
use Rattle.std.proofs.lemmas.Bool.{eqb-true, le-ltb, ltb-false}
use Rattle.std.proofs.lemmas.List.Concat.{flat_map-cons}
use Rattle.lg_rules.specs.declared.claim.Claim.{Claim}
use Rattle.lg_rules.specs.declared.claim.Status.{Status}
use Rattle.lg_rules.specs.declared.claim.Status.TheVariants.{Alive, Suspect, Failed, Left}
use Rattle.lg_rules.specs.declared.version.Version.{Version}
use Rattle.lg_rules.specs.declared.version.Version.TheVariants as versions
use Rattle.lg_packet.specs.declared.fault.Fault.TheVariants as faults
use Rattle.lg_packet.specs.declared.kind.ClaimKind.{ClaimKind}
use Rattle.lg_packet.specs.declared.kind.ClaimKind.TheVariants as claims
use Rattle.lg_packet.specs.Meaning.Spelling.{claim_kind_of, byte_of_claim_kind, spelled_name, spelled_number, spelled_addr, spelled_accuser, spelled_claim, IsStatus, IsClaim}
use Rattle.lg_packet.specs.Meaning.Reading.{◌>>=◌, number_at, name_at, addr_at, incarnation_at, fourth_kind, claim_kind_of_byte, claim_kind_before, claim_kind_at, status_at, claim_at, claims_at}
use Rattle.lg_packet.proofs.Outcomes.{step_ok, passed_by, same_ok}
use Rattle.lg_packet.proofs.NameFields.{name_read, name_again}
use Rattle.lg_packet.proofs.Fields.{AreBytes, behind, number_read, number_again, addr_read, addr_again}

-- ---- incarnations

incarnation_read : (bytes : List ℕ) (x : ℕ × List ℕ) → AreBytes bytes → incarnation_at bytes ≡ Ok x → (bytes ≡ spelled_number x.0 ++ x.1) × (x.0 ≤ 1000000000)
unfolding incarnation_at
incarnation_read bytes x fit e =
    let a = step_ok (number_at w32 bytes) (λ number. cond (ltb 1000000000 number.0) (Err faults.Incarnation) (Ok number)) x e in
    let b = passed_by (ltb 1000000000 a.0.0) faults.Incarnation (Ok a.0) x a.2 in
    let number = number_read bytes a.0 fit a.1 in
    subst (λ (y : ℕ × List ℕ). (bytes ≡ spelled_number y.0 ++ y.1) × (y.0 ≤ 1000000000)) (same_ok a.0 x b.1) (number.0, ltb-false 1000000000 a.0.0 b.0)

incarnation_again : (n : ℕ) (rest : List ℕ) → n ≤ 1000000000 → incarnation_at (spelled_number n ++ rest) ≡ Ok (n, rest)
unfolding incarnation_at
incarnation_again n rest fit = rw (number_again n rest (omega arith), le-ltb 1000000000 n fit) refl

-- ---- kinds and statuses

-- the kind is one of the version
abbrev IsClaimKindOf : Version → ClaimKind → Type 0
IsClaimKindOf v kind = claim_kind_of_byte v (byte_of_claim_kind kind) ≡ Some kind

abbrev ReadsClaimKind : Version → List ℕ → ClaimKind × List ℕ → Type 0
ReadsClaimKind v bytes x = (bytes ≡ byte_of_claim_kind x.0 ∷ x.1) × IsClaimKindOf v x.0

claim_kind_read : (v : Version) (bytes : List ℕ) (x : ClaimKind × List ℕ) → claim_kind_at v bytes ≡ Ok x → ReadsClaimKind v bytes x
claim_kind_read v [] x e = absurd cc
claim_kind_read v (b ∷ bytes) x e = step (eqb b 1) refl (eqb b 2) refl (eqb b 3) refl (eqb b 4) refl e
  where
    is : (n : ℕ) (kind : ClaimKind) → byte_of_claim_kind kind ≡ n → IsClaimKindOf v kind → eqb b n ≡ true → claim_kind_before bytes (Some kind) ≡ Ok x → ReadsClaimKind v (b ∷ bytes) x
    is n kind byte fit h k =
        let here : b ≡ byte_of_claim_kind kind = eqb-true b n h ∙ sym byte in
        subst (λ (y : ClaimKind × List ℕ). ReadsClaimKind v (b ∷ bytes) y) (same_ok (kind, bytes) x k) (ap (λ (m : ℕ). m ∷ bytes) here, fit)

    fourth : (w : Version) → (IsClaimKindOf w claims.Left → IsClaimKindOf v claims.Left) → eqb b 4 ≡ true → claim_kind_before bytes (fourth_kind w) ≡ Ok x → ReadsClaimKind v (b ∷ bytes) x
    fourth versions.One same h k = absurd cc
    fourth versions.Two same h k = absurd cc
    fourth versions.Three same h k = is 4 claims.Left refl (same refl) h k

    step : (one : Bool) → eqb b 1 ≡ one → (two : Bool) → eqb b 2 ≡ two → (three : Bool) → eqb b 3 ≡ three → (four : Bool) → eqb b 4 ≡ four
        → claim_kind_before bytes (cond one (Some claims.Alive) (cond two (Some claims.Suspect) (cond three (Some claims.Failed) (cond four (fourth_kind v) None)))) ≡ Ok x → ReadsClaimKind v (b ∷ bytes) x
    step true h two i three j four l k = is 1 claims.Alive refl refl h k
    step false h true i three j four l k = is 2 claims.Suspect refl refl i k
    step false h false i true j four l k = is 3 claims.Failed refl refl j k
    step false h false i false j true l k = fourth v (λ fit. fit) l k
    step false h false i false j false l k = absurd cc

claim_kind_again : (v : Version) (kind : ClaimKind) (rest : List ℕ) → IsClaimKindOf v kind → claim_kind_at v (byte_of_claim_kind kind ∷ rest) ≡ Ok (kind, rest)
claim_kind_again v kind rest fit = ap (claim_kind_before rest) fit

left_fits : (v : Version) → IsClaimKindOf v (claim_kind_of v Left)
left_fits versions.One = refl
left_fits versions.Two = refl
left_fits versions.Three = refl

-- the kind of a status is one of the version
claim_kind_fits : (v : Version) (status : Status) → IsClaimKindOf v (claim_kind_of v status)
claim_kind_fits v Alive = refl
claim_kind_fits v (Suspect accuser) = refl
claim_kind_fits v Failed = refl
claim_kind_fits v Left = left_fits v

-- a status that was read: its accuser, and its kind
pub record IsRead (v : Version) (kind : ClaimKind) (bytes : List ℕ) (x : Status × List ℕ) : Type 0 where
  pub whole : bytes ≡ spelled_accuser x.0 ++ x.1
  pub status : IsStatus v x.0
  pub same : claim_kind_of v x.0 ≡ kind

left_read : (v : Version) (bytes : List ℕ) → IsClaimKindOf v claims.Left → IsRead v claims.Left bytes (Left, bytes)
left_read versions.One bytes fit = absurd cc
left_read versions.Two bytes fit = absurd cc
left_read versions.Three bytes fit = record { whole = refl; status = tt; same = refl }

status_read : (v : Version) (kind : ClaimKind) (bytes : List ℕ) (x : Status × List ℕ) → IsClaimKindOf v kind → status_at kind bytes ≡ Ok x → IsRead v kind bytes x
unfolding status_at
status_read v claims.Alive bytes x fit e = subst (λ y. IsRead v claims.Alive bytes y) (same_ok (Alive, bytes) x e) (record { whole = refl; status = tt; same = refl })
status_read v claims.Suspect bytes x fit e =
    let a = step_ok (name_at bytes) (λ accuser. Ok (Suspect accuser.0, accuser.1)) x e in
    let name = name_read bytes a.0 a.1 in
    subst (λ y. IsRead v claims.Suspect bytes y) (same_ok (Suspect a.0.0, a.0.1) x a.2) (record { whole = name.0; status = name.1; same = refl })
status_read v claims.Failed bytes x fit e = subst (λ y. IsRead v claims.Failed bytes y) (same_ok (Failed, bytes) x e) (record { whole = refl; status = tt; same = refl })
status_read v claims.Left bytes x fit e = subst (λ y. IsRead v claims.Left bytes y) (same_ok (Left, bytes) x e) (left_read v bytes fit)

left_again : (v : Version) (rest : List ℕ) → IsStatus v Left → status_at (claim_kind_of v Left) rest ≡ Ok (Left, rest)
unfolding status_at
left_again versions.One rest fit = absurd fit
left_again versions.Two rest fit = absurd fit
left_again versions.Three rest fit = refl

status_again : (v : Version) (status : Status) (rest : List ℕ) → IsStatus v status → status_at (claim_kind_of v status) (spelled_accuser status ++ rest) ≡ Ok (status, rest)
unfolding status_at
status_again v Alive rest fit = refl
status_again v (Suspect accuser) rest fit = rw (name_again accuser rest fit) refl
status_again v Failed rest fit = refl
status_again v Left rest fit = left_again v rest fit

-- ---- claims

regrouped : (v : Version) (c : Claim) (rest : List ℕ) → spelled_claim v c ++ rest
    ≡ byte_of_claim_kind (claim_kind_of v c.status) ∷ (spelled_name c.name ++ (spelled_addr v c.addr ++ (spelled_number c.incarnation ++ (spelled_accuser c.status ++ rest))))
regrouped v c rest =
    let after_addr = spelled_number c.incarnation ++ spelled_accuser c.status in
    ap (λ (t : List ℕ). byte_of_claim_kind (claim_kind_of v c.status) ∷ t)
    (append_assoc (spelled_name c.name) (spelled_addr v c.addr ++ after_addr) rest
    ∙ ap (λ (t : List ℕ). spelled_name c.name ++ t) (append_assoc (spelled_addr v c.addr) after_addr rest))

-- fields one behind the other make a claim
joined : (v : Version) (kind : ClaimKind) (c : Claim) (bytes after_kind after_name after_addr after_incarnation rest : List ℕ) → bytes ≡ byte_of_claim_kind kind ∷ after_kind → after_kind ≡ spelled_name c.name ++ after_name
    → after_name ≡ spelled_addr v c.addr ++ after_addr → after_addr ≡ spelled_number c.incarnation ++ after_incarnation → after_incarnation ≡ spelled_accuser c.status ++ rest → claim_kind_of v c.status ≡ kind
    → bytes ≡ spelled_claim v c ++ rest
joined v kind c bytes after_kind after_name after_addr after_incarnation rest e name addr incarnation accuser same =
    e ∙ ap (λ k. byte_of_claim_kind k ∷ after_kind) (sym same)
    ∙ ap (λ (t : List ℕ). byte_of_claim_kind (claim_kind_of v c.status) ∷ t) (name ∙ ap (λ (t : List ℕ). spelled_name c.name ++ t) (addr ∙ ap (λ (t : List ℕ). spelled_addr v c.addr ++ t) (incarnation ∙ ap (λ (t : List ℕ). spelled_number c.incarnation ++ t) accuser)))
    ∙ sym (regrouped v c rest)

claim_read : (v : Version) (bytes : List ℕ) (x : Claim × List ℕ) → AreBytes bytes → claim_at v bytes ≡ Ok x → (bytes ≡ spelled_claim v x.0 ++ x.1) × IsClaim v x.0
unfolding claim_at
claim_read v bytes x fit e =
    let a = step_ok (claim_kind_at v bytes) (λ kind. name_at kind.1 >>= λ name. addr_at v name.1 >>= λ addr. incarnation_at addr.1 >>= λ incarnation. status_at kind.0 incarnation.1 >>= λ status.
    Ok (record { name = name.0; addr = addr.0; status = status.0; incarnation = incarnation.0 }, status.1)) x e in
    let b = step_ok (name_at a.0.1) (λ name. addr_at v name.1 >>= λ addr. incarnation_at addr.1 >>= λ incarnation. status_at a.0.0 incarnation.1 >>= λ status.
    Ok (record { name = name.0; addr = addr.0; status = status.0; incarnation = incarnation.0 }, status.1)) x a.2 in
    let d = step_ok (addr_at v b.0.1) (λ addr. incarnation_at addr.1 >>= λ incarnation. status_at a.0.0 incarnation.1 >>= λ status.
    Ok (record { name = b.0.0; addr = addr.0; status = status.0; incarnation = incarnation.0 }, status.1)) x b.2 in
    let f = step_ok (incarnation_at d.0.1) (λ incarnation. status_at a.0.0 incarnation.1 >>= λ status.
    Ok (record { name = b.0.0; addr = d.0.0; status = status.0; incarnation = incarnation.0 }, status.1)) x d.2 in
    let g = step_ok (status_at a.0.0 f.0.1) (λ status. Ok (record { name = b.0.0; addr = d.0.0; status = status.0; incarnation = f.0.0 }, status.1)) x f.2 in
    let kind = claim_kind_read v bytes a.0 a.1 in
    let behind_kind : AreBytes a.0.1 = behind (byte_of_claim_kind a.0.0 ∷ []) a.0.1 (subst AreBytes kind.0 fit) in
    let name = name_read a.0.1 b.0 b.1 in
    let behind_name : AreBytes b.0.1 = behind (spelled_name b.0.0) b.0.1 (subst AreBytes name.0 behind_kind) in
    let addr = addr_read v b.0.1 d.0 behind_name d.1 in
    let behind_addr : AreBytes d.0.1 = behind (spelled_addr v d.0.0) d.0.1 (subst AreBytes addr.0 behind_name) in
    let incarnation = incarnation_read d.0.1 f.0 behind_addr f.1 in
    let status = status_read v a.0.0 f.0.1 g.0 kind.1 g.1 in
    let made : Claim = record { name = b.0.0; addr = d.0.0; status = g.0.0; incarnation = f.0.0 } in
    let whole = joined v a.0.0 made bytes a.0.1 b.0.1 d.0.1 f.0.1 g.0.1 kind.0 name.0 addr.0 incarnation.0 status.whole status.same in
    subst (λ (y : Claim × List ℕ). (bytes ≡ spelled_claim v y.0 ++ y.1) × IsClaim v y.0) (same_ok (made, g.0.1) x g.2) (whole, record { name = name.1; addr = addr.1; status = status.status; incarnation = incarnation.1 })

claim_again : (v : Version) (c : Claim) (rest : List ℕ) → IsClaim v c → claim_at v (spelled_claim v c ++ rest) ≡ Ok (c, rest)
unfolding claim_at
claim_again v c rest fit =
    let after_incarnation = spelled_accuser c.status ++ rest in
    let after_addr = spelled_number c.incarnation ++ after_incarnation in
    let after_name = spelled_addr v c.addr ++ after_addr in
    ap (claim_at v) (regrouped v c rest)
    ∙ rw (claim_kind_again v (claim_kind_of v c.status) (spelled_name c.name ++ after_name) (claim_kind_fits v c.status), name_again c.name after_name fit.name, addr_again v c.addr after_addr fit.addr, incarnation_again c.incarnation after_incarnation fit.incarnation, status_again v c.status rest fit.status) refl

pub claims_read : (v : Version) (n : ℕ) (bytes : List ℕ) (x : List Claim × List ℕ) → AreBytes bytes → claims_at v n bytes ≡ Ok x → (bytes ≡ flat_map (spelled_claim v) x.0 ++ x.1) × (length x.0 ≡ n) × AllByRecursion (IsClaim v) x.0
unfolding claims_at
claims_read v zero bytes x fit e =
    subst (λ (y : List Claim × List ℕ). (bytes ≡ flat_map (spelled_claim v) y.0 ++ y.1) × (length y.0 ≡ 0) × AllByRecursion (IsClaim v) y.0) (same_ok ([], bytes) x e) (refl, refl, tt)
claims_read v (suc n) bytes x fit e =
    let a = step_ok (claim_at v bytes) (λ first. claims_at v n first.1 >>= λ others. Ok (first.0 ∷ others.0, others.1)) x e in
    let b = step_ok (claims_at v n a.0.1) (λ others. Ok (a.0.0 ∷ others.0, others.1)) x a.2 in
    let first = claim_read v bytes a.0 fit a.1 in
    let others = claims_read v n a.0.1 b.0 (behind (spelled_claim v a.0.0) a.0.1 (subst AreBytes first.0 fit)) b.1 in
    let whole : bytes ≡ flat_map (spelled_claim v) (a.0.0 ∷ b.0.0) ++ b.0.1 =
    first.0 ∙ ap (λ (t : List ℕ). spelled_claim v a.0.0 ++ t) others.0 ∙ sym (append_assoc (spelled_claim v a.0.0) (flat_map (spelled_claim v) b.0.0) b.0.1) ∙ ap (λ (t : List ℕ). t ++ b.0.1) (sym (flat_map-cons (spelled_claim v) a.0.0 b.0.0)) in
    subst (λ (y : List Claim × List ℕ). (bytes ≡ flat_map (spelled_claim v) y.0 ++ y.1) × (length y.0 ≡ suc n) × AllByRecursion (IsClaim v) y.0) (same_ok (a.0.0 ∷ b.0.0, b.0.1) x b.2) (whole, ap suc others.1, (first.1, others.2))

pub claims_again : (v : Version) (cs : List Claim) (rest : List ℕ) → AllByRecursion (IsClaim v) cs → claims_at v (length cs) (flat_map (spelled_claim v) cs ++ rest) ≡ Ok (cs, rest)
unfolding claims_at
claims_again v [] rest fit = refl
claims_again v (c ∷ cs) rest fit =
    let apart : flat_map (spelled_claim v) (c ∷ cs) ++ rest ≡ spelled_claim v c ++ (flat_map (spelled_claim v) cs ++ rest) =
    ap (λ (t : List ℕ). t ++ rest) (flat_map-cons (spelled_claim v) c cs) ∙ append_assoc (spelled_claim v c) (flat_map (spelled_claim v) cs) rest in
    ap (claims_at v (suc (length cs))) apart ∙ rw (claim_again v c (flat_map (spelled_claim v) cs ++ rest) fit.0, claims_again v cs rest fit.1) refl
