-- The two laws of packets: what is read is spelled so, and what is spelled so is read.
use Rattle.std.proofs.Common.{◌≡◌, ℕ, ◌≤◌, IsTrue, cond, eqb, List, [], ◌∷◌, ◌++◌, length, take, Option, Result, Ok, Err, refl, sym, ap, subst, ◌∙◌, append_assoc, arith}
use Rattle.std.specs.List.{flat_map}
use Rattle.std.proofs.lemmas.Bool.{eqb-true}
use Rattle.std.proofs.lemmas.List.{append-nil, nil_from_length, take_all}
use Rattle.lg_rules.specs.declared.claim.Claim.{Claim}
use Rattle.lg_rules.specs.declared.version.Version.{Version}
use Rattle.lg_rules.specs.Meaning.Version.{most_claims_of}
use Rattle.lg_rules.specs.Meaning.Name.{is_name}
use Rattle.lg_packet.specs.declared.fault.Fault.{Fault}
use Rattle.lg_packet.specs.declared.fault.Fault.TheVariants as faults
use Rattle.lg_packet.specs.declared.kind.Kind.{Kind}
use Rattle.lg_packet.specs.declared.packet.Body.{Body}
use Rattle.lg_packet.specs.declared.packet.Packet.{Packet}
use Rattle.lg_packet.specs.Meaning.Spelling.{kind_of, spelled_head, spelled_group, spelled_name, spelled_body, spelled_claim, spelled_claims, spelling, IsGroup, IsBody, AreClaims, IsPacket, Spells}
use Rattle.lg_packet.specs.Meaning.Reading.{◌>>=◌, head_at, group_at, name_at, body_at, count_at, claims_at, packet_at, packet_of}
use Rattle.lg_packet.proofs.Outcomes.{step_ok, passed, same_ok}
use Rattle.lg_packet.proofs.NameFields.{name_read, name_again}
use Rattle.lg_packet.proofs.Fields.{AreBytes, behind, IsKindOf, kind_fits, head_read, head_again, group_read, group_again, body_read, body_again, count_read, count_again}
use Rattle.lg_packet.proofs.ClaimFields.{claims_read, claims_again}

-- the claims that a packet tells
abbrev pub told : Packet → List Claim
told p = take (most_claims_of p.version) p.claims.items

-- a packet's spelling, and what stands behind it
pub regrouped : (p : Packet) (rest : List ℕ) → spelling p ++ rest
    ≡ spelled_head p.version (kind_of p.version p.body) ++ (spelled_group p.version p.group ++ (spelled_name p.sender ++ (spelled_body p.version p.sender p.body ++ (length (told p) ∷ (flat_map (spelled_claim p.version) (told p) ++ rest)))))
unfolding spelling
regrouped p rest = simp append_assoc

all_told : (p : Packet) → length p.claims.items ≤ most_claims_of p.version → told p ≡ p.claims.items
all_told p few = take_all (most_claims_of p.version) p.claims.items few

-- the count of claims and the claims, one behind the other
claims_joined : (v : Version) (n : ℕ) (cs : List Claim) (bytes after_count rest : List ℕ) → bytes ≡ n ∷ after_count → after_count ≡ flat_map (spelled_claim v) cs ++ rest → length cs ≡ n → n ≤ most_claims_of v → bytes ≡ spelled_claims v cs ++ rest
claims_joined v n cs bytes after_count rest count claims len few =
    let all : cs ≡ take (most_claims_of v) cs = sym (take_all (most_claims_of v) cs (omega (arith, len, few))) in
    count
    ∙ ap (λ (m : ℕ). m ∷ after_count) (sym len)
    ∙ ap (λ (t : List ℕ). length cs ∷ t) claims
    ∙ ap (λ (ds : List Claim). length ds ∷ (flat_map (spelled_claim v) ds ++ rest)) all

-- what stands behind the sender, as it is read: it makes a packet with what was read before
abbrev pub after_sender : Version → Kind → Option (List ℕ) → List ℕ → List ℕ → Result (Packet × List ℕ) Fault
after_sender v kind group sender bytes =
    body_at v kind bytes >>= λ body. count_at v body.1 >>= λ count. claims_at v count.0 count.1 >>= λ claims.
    Ok (record { version = v; group = group; sender = sender; body = body.0; claims = record { items = claims.0 } }, claims.1)

record ReadsAfter (v : Version) (kind : Kind) (group : Option (List ℕ)) (sender bytes : List ℕ) (x : Packet × List ℕ) : Type 0 where
  pub body : Body
  pub claims : List Claim
  pub rest : List ℕ
  pub whole : bytes ≡ spelled_body v sender body ++ (spelled_claims v claims ++ rest)
  pub is_body : IsBody v body
  pub same : kind_of v body ≡ kind
  pub are_claims : AreClaims v claims
  pub made : (record { version = v; group = group; sender = sender; body = body; claims = record { items = claims } }, rest) ≡ x

after_read : (v : Version) (kind : Kind) (group : Option (List ℕ)) (sender bytes : List ℕ) (x : Packet × List ℕ) → IsKindOf v kind → AreBytes bytes → after_sender v kind group sender bytes ≡ Ok x → ReadsAfter v kind group sender bytes x
after_read v kind group sender bytes x of_version fit e =
    let d = step_ok (body_at v kind bytes) (λ body. count_at v body.1 >>= λ count. claims_at v count.0 count.1 >>= λ claims.
    Ok (record { version = v; group = group; sender = sender; body = body.0; claims = record { items = claims.0 } }, claims.1)) x e in
    let f = step_ok (count_at v d.0.1) (λ count. claims_at v count.0 count.1 >>= λ claims. Ok (record { version = v; group = group; sender = sender; body = d.0.0; claims = record { items = claims.0 } }, claims.1)) x d.2 in
    let g = step_ok (claims_at v f.0.0 f.0.1) (λ claims. Ok (record { version = v; group = group; sender = sender; body = d.0.0; claims = record { items = claims.0 } }, claims.1)) x f.2 in
    let body = body_read v sender kind bytes d.0 of_version fit d.1 in
    let behind_body : AreBytes d.0.1 = behind (spelled_body v sender d.0.0) d.0.1 (subst AreBytes body.0 fit) in
    let count = count_read v d.0.1 f.0 f.1 in
    let behind_count : AreBytes f.0.1 = behind (f.0.0 ∷ []) f.0.1 (subst AreBytes count.0 behind_body) in
    let claims = claims_read v f.0.0 f.0.1 g.0 behind_count g.1 in
    record {
      body = d.0.0;
      claims = g.0.0;
      rest = g.0.1;
      whole = body.0 ∙ ap (λ (t : List ℕ). spelled_body v sender d.0.0 ++ t) (claims_joined v f.0.0 g.0.0 d.0.1 f.0.1 g.0.1 count.0 claims.0 claims.1 count.1);
      is_body = body.1;
      same = body.2;
      are_claims = record { few = omega (arith, claims.1, count.1); each = claims.2 };
      made = same_ok (record { version = v; group = group; sender = sender; body = d.0.0; claims = record { items = g.0.0 } }, g.0.1) x g.2;
    }

-- fields one behind the other make a packet
joined : (kind : Kind) (p : Packet) (bytes after_head after_group after_sender rest : List ℕ) → bytes ≡ spelled_head p.version kind ++ after_head → after_head ≡ spelled_group p.version p.group ++ after_group
    → after_group ≡ spelled_name p.sender ++ after_sender → after_sender ≡ spelled_body p.version p.sender p.body ++ (spelled_claims p.version p.claims.items ++ rest) → kind_of p.version p.body ≡ kind
    → bytes ≡ spelling p ++ rest
joined kind p bytes after_head after_group after_sender rest head group sender others same =
    head ∙ ap (λ k. spelled_head p.version k ++ after_head) (sym same)
    ∙ ap (λ (t : List ℕ). spelled_head p.version (kind_of p.version p.body) ++ t) (group
    ∙ ap (λ (t : List ℕ). spelled_group p.version p.group ++ t) (sender
    ∙ ap (λ (t : List ℕ). spelled_name p.sender ++ t) others))
    ∙ sym (regrouped p rest)

pub packet_read : (bytes : List ℕ) (x : Packet × List ℕ) → AreBytes bytes → packet_at bytes ≡ Ok x → IsPacket x.0 × (bytes ≡ spelling x.0 ++ x.1)
unfolding packet_at
packet_read bytes x fit e =
    let a = step_ok (head_at bytes) (λ head. group_at head.0.0 head.1 >>= λ group. name_at group.1 >>= λ sender. after_sender head.0.0 head.0.1 group.0 sender.0 sender.1) x e in
    let o = step_ok (group_at a.0.0.0 a.0.1) (λ group. name_at group.1 >>= λ sender. after_sender a.0.0.0 a.0.0.1 group.0 sender.0 sender.1) x a.2 in
    let b = step_ok (name_at o.0.1) (λ sender. after_sender a.0.0.0 a.0.0.1 o.0.0 sender.0 sender.1) x o.2 in
    parts_read a.0.0.0 a.0.0.1 o.0.0 b.0.0 bytes a.0.1 o.0.1 b.0.1 x fit (head_read bytes a.0 a.1) (group_read a.0.0.0 a.0.1 o.0 o.1) (name_read o.0.1 b.0 b.1) b.2
  where
    parts_read : (v : Version) (kind : Kind) (group : Option (List ℕ)) (sender bytes after_head after_group behind_sender : List ℕ) (x : Packet × List ℕ) → AreBytes bytes
        → (bytes ≡ spelled_head v kind ++ after_head) × IsKindOf v kind → (after_head ≡ spelled_group v group ++ after_group) × IsGroup v group → (after_group ≡ spelled_name sender ++ behind_sender) × IsTrue (is_name sender)
        → after_sender v kind group sender behind_sender ≡ Ok x → IsPacket x.0 × (bytes ≡ spelling x.0 ++ x.1)
    parts_read v kind group sender bytes after_head after_group behind_sender x fit head told_group told_sender e =
        let head_fits : AreBytes after_head = behind (spelled_head v kind) after_head (subst AreBytes head.0 fit) in
        let group_fits : AreBytes after_group = behind (spelled_group v group) after_group (subst AreBytes told_group.0 head_fits) in
        let sender_fits : AreBytes behind_sender = behind (spelled_name sender) behind_sender (subst AreBytes told_sender.0 group_fits) in
        let r = after_read v kind group sender behind_sender x head.1 sender_fits e in
        let made : Packet = record { version = v; group = group; sender = sender; body = r.body; claims = record { items = r.claims } } in
        let whole = joined kind made bytes after_head after_group behind_sender r.rest head.0 told_group.0 told_sender.0 r.whole r.same in
        subst (λ (y : Packet × List ℕ). IsPacket y.0 × (bytes ≡ spelling y.0 ++ y.1)) r.made
        (record { group = told_group.1; sender = told_sender.1; body = r.is_body; claims = r.are_claims }, whole)

pub packet_again : (p : Packet) (rest : List ℕ) → IsPacket p → packet_at (spelling p ++ rest) ≡ Ok (p, rest)
unfolding packet_at
packet_again p rest fit =
    let v = p.version in
    let after_count = flat_map (spelled_claim v) p.claims.items ++ rest in
    let after_body = length p.claims.items ∷ after_count in
    let after_sender = spelled_body v p.sender p.body ++ after_body in
    let after_group = spelled_name p.sender ++ after_sender in
    let apart : spelling p ++ rest ≡ spelled_head v (kind_of v p.body) ++ (spelled_group v p.group ++ after_group) =
    regrouped p rest
    ∙ ap (λ (cs : List Claim). spelled_head v (kind_of v p.body) ++ (spelled_group v p.group ++ (spelled_name p.sender ++ (spelled_body v p.sender p.body ++ (length cs ∷ (flat_map (spelled_claim v) cs ++ rest)))))) (all_told p fit.claims.few) in
    ap packet_at apart
    ∙ rw (
      head_again v (kind_of v p.body) (spelled_group v p.group ++ after_group) (kind_fits v p.body),
      group_again v p.group after_group fit.group,
      name_again p.sender after_sender fit.sender,
      body_again v p.sender p.body after_body fit.body,
      count_again v (length p.claims.items) after_count fit.claims.few,
      claims_again v p.claims.items rest fit.claims.each,
    ) refl

-- ---- all of the bytes

pub whole_read : (bytes : List ℕ) (p : Packet) → AreBytes bytes → packet_of bytes ≡ Ok p → Spells bytes p
unfolding packet_of
whole_read bytes p fit e =
    let a = step_ok (packet_at bytes) (λ packet. cond (eqb (length packet.1) 0) (Ok packet.0) (Err faults.Trailing)) p e in
    let b = passed (eqb (length a.0.1) 0) faults.Trailing (Ok a.0.0) p a.2 in
    let nothing : a.0.1 ≡ [] = nil_from_length a.0.1 (eqb-true (length a.0.1) 0 b.0) in
    let read = packet_read bytes a.0 fit a.1 in
    let whole : bytes ≡ spelling a.0.0 = read.1 ∙ ap (λ (t : List ℕ). spelling a.0.0 ++ t) nothing ∙ append-nil (spelling a.0.0) in
    subst (λ (q : Packet). Spells bytes q) (same_ok a.0.0 p b.1) (read.0, whole)

pub whole_again : (bytes : List ℕ) (p : Packet) → Spells bytes p → packet_of bytes ≡ Ok p
unfolding packet_of
whole_again bytes p spells =
    let at_front : packet_at bytes ≡ Ok (p, []) = ap packet_at (spells.1 ∙ sym (append-nil (spelling p))) ∙ packet_again p [] spells.0 in
    rw at_front refl

-- ---- spellings

-- a spelling that begins another is the other
pub one_start : (p q : Packet) (rest : List ℕ) → IsPacket p → IsPacket q → spelling p ++ rest ≡ spelling q → (p ≡ q) × (rest ≡ [])
one_start p q rest p_fits q_fits e =
    let first = packet_again p rest p_fits in
    let second = packet_again q [] q_fits in
    let same : (p, rest) ≡ (q, []) = same_ok (p, rest) (q, []) (sym first ∙ ap packet_at (e ∙ sym (append-nil (spelling q))) ∙ second) in
    (ap (λ (x : Packet × List ℕ). x.0) same, ap (λ (x : Packet × List ℕ). x.1) same)

pub one_packet : (p q : Packet) → IsPacket p → IsPacket q → spelling p ≡ spelling q → p ≡ q
one_packet p q p_fits q_fits e = (one_start p q [] p_fits q_fits (append-nil (spelling p) ∙ e)).0
