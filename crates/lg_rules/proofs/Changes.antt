-- Which records of the view differ once claims are heard: those of the names that they changed.
use Rattle.std.proofs.Common.{◌≡◌, ◌≢◌, ℕ, ◌≤◌, Bool, true, false, ◌&&◌, not, cond, List, [], ◌∷◌, length, Option, Some, None, inl, inr, refl, sym, ◌∙◌, ap, subst, arith, eqb}
use Rattle.std.specs.Prelude.{filter}
use Rattle.std.proofs.lemmas.Bool.{cases_Bool, eq-eqb, eqb-true, false≢true, and_parts}
use Rattle.std.proofs.lemmas.Slice.Eq.{bytes_eq-Decides}
use Rattle.lg_rules.specs.declared.addr.Addr.{Addr}
use Rattle.lg_rules.specs.declared.addr.Ip.{Ip}
use Rattle.lg_rules.specs.declared.addr.Ip.TheVariants.{V4, V6}
use Rattle.lg_rules.specs.declared.claim.Claim.{Claim}
use Rattle.lg_rules.specs.declared.claim.Status.{Status}
use Rattle.lg_rules.specs.declared.claim.Status.TheVariants.{Alive, Suspect, Failed, Left}
use Rattle.lg_rules.specs.Meaning.Beats.{beats_of}
use Rattle.lg_rules.specs.Meaning.Claim.{name_of}
use Rattle.lg_rules.specs.Meaning.Own.{OwnFact, Told}
use Rattle.lg_rules.specs.Meaning.Rows.{name_cmp, is_same, row_at}
use Rattle.lg_rules.specs.Meaning.View.{is_same_status, is_same_ip, is_same_addr, is_same_claim, is_row, changed}
use Rattle.lg_rules.specs.Support.Standing.{Standing, standing_of, standing_view, hear_claim, standing_after}
use Rattle.lg_rules.specs.Support.Standing.{changes_record, changed_names}
use Rattle.lg_rules.proofs.Cases.{held_once}
use Rattle.lg_rules.proofs.KeyOrder.{names_order, same_key, key_is, cases_key}
use Rattle.lg_rules.proofs.Ranks.{ranked}
use Rattle.lg_rules.proofs.Rises.{among-cons_same, among-cons_other}
use Rattle.lg_rules.proofs.Roster.{is_known}
use Rattle.lg_rules.proofs.RowsFound.{filter_same, rows_found, few_among}
use Rattle.lg_rules.proofs.Views.{view_after, hear_claim-standing, rises-view, Follows, IsChange, Changes, Leaves, view_hearing}

-- the past once these are heard, the first first
abbrev pub after_claims : List OwnFact → List Claim → List OwnFact
after_claims past [] = past
after_claims past (c ∷ cs) = after_claims (Told c ∷ past) cs

pub hear_claims-standing : (forgets : Bool) (name : List ℕ) (addr : Addr) (past : List OwnFact) (cs : List Claim) → standing_after (standing_of forgets name addr past) cs ≡ standing_of forgets name addr (after_claims past cs)
hear_claims-standing forgets name addr past [] = refl
hear_claims-standing forgets name addr past (c ∷ cs) = ap (λ m. standing_after m cs) (hear_claim-standing forgets name addr past c) ∙ hear_claims-standing forgets name addr (Told c ∷ past) cs

-- the names whose records claims change after a past
abbrev pub names_after : Bool → List ℕ → Addr → List OwnFact → List Claim → List (List ℕ)
names_after forgets name addr past cs = changed_names (standing_of forgets name addr past) cs

names_more : (forgets : Bool) (name : List ℕ) (addr : Addr) (past : List OwnFact) (c : Claim) (cs : List Claim) → changes_record (standing_of forgets name addr past) c ≡ true → names_after forgets name addr past (c ∷ cs) ≡ c.name ∷ names_after forgets name addr (Told c ∷ past) cs
names_more forgets name addr past c cs t =
    ap (λ b. cond b (c.name ∷ changed_names (hear_claim (standing_of forgets name addr past) c) cs) (changed_names (hear_claim (standing_of forgets name addr past) c) cs)) t
    ∙ ap (λ m. c.name ∷ changed_names m cs) (hear_claim-standing forgets name addr past c)

names_none : (forgets : Bool) (name : List ℕ) (addr : Addr) (past : List OwnFact) (c : Claim) (cs : List Claim) → changes_record (standing_of forgets name addr past) c ≡ false → names_after forgets name addr past (c ∷ cs) ≡ names_after forgets name addr (Told c ∷ past) cs
names_none forgets name addr past c cs f =
    ap (λ b. cond b (c.name ∷ changed_names (hear_claim (standing_of forgets name addr past) c) cs) (changed_names (hear_claim (standing_of forgets name addr past) c) cs)) f
    ∙ ap (λ m. changed_names m cs) (hear_claim-standing forgets name addr past c)

-- what overrides what overrides a third overrides that
beats_through : (r c b : Claim) → beats_of r c ≡ true → beats_of c b ≡ true → beats_of r b ≡ true
beats_through r c b p q = elim (cases_Bool (beats_of r b)) [
  | inl t ↦ t
  | inr f ↦ absurd (false≢true (sym (ranked.not_below c b r q f) ∙ p))
]

follows_through : (r c : Claim) (o : Option Claim) → beats_of r c ≡ true → Follows c o → Follows r o
follows_through r c None p h = tt
follows_through r c (Some b) p h = beats_through r c b p h

-- A record of a name overrides the one before where its claims changed it, and else is the one before.
record Traced (forgets : Bool) (name : List ℕ) (addr : Addr) (past : List OwnFact) (cs : List Claim) (m : List ℕ) (r : Claim) : Type 0 where
  hit : is_known m (names_after forgets name addr past cs) ≡ true → Follows r (row_at name_cmp name_of m (view_after forgets name addr past))
  missed : is_known m (names_after forgets name addr past cs) ≡ false → row_at name_cmp name_of m (view_after forgets name addr past) ≡ Some r

traced_hit : (forgets : Bool) (name : List ℕ) (addr : Addr) (past : List OwnFact) (c : Claim) (cs : List Claim) (r : Claim) → IsChange forgets name addr c past → Traced forgets name addr (Told c ∷ past) cs c.name r → Traced forgets name addr past (c ∷ cs) c.name r
traced_hit forgets name addr past c cs r n rest =
    let more = names_more forgets name addr past c cs n.changes in
    record {
      hit = λ h. elim (cases_Bool (is_known c.name (names_after forgets name addr (Told c ∷ past) cs))) [
        | inl a ↦ follows_through r n.r (row_at name_cmp name_of c.name (view_after forgets name addr past)) (subst (Follows r) n.row (rest.hit a)) n.follows
        | inr b ↦ subst (λ x. Follows x (row_at name_cmp name_of c.name (view_after forgets name addr past))) (held_once n.r r (sym n.row ∙ rest.missed b)) n.follows
      ];
      missed = λ h. absurd (false≢true (sym h ∙ ap (is_known c.name) more ∙ among-cons_same names_order c.name c.name (names_after forgets name addr (Told c ∷ past) cs) refl));
    }

traced_other : (forgets : Bool) (name : List ℕ) (addr : Addr) (past : List OwnFact) (c : Claim) (cs : List Claim) (m : List ℕ) (r : Claim) → IsChange forgets name addr c past → c.name ≢ m → Traced forgets name addr (Told c ∷ past) cs m r → Traced forgets name addr past (c ∷ cs) m r
traced_other forgets name addr past c cs m r n d rest =
    let row = n.others m d in
    let among : is_known m (names_after forgets name addr past (c ∷ cs)) ≡ is_known m (names_after forgets name addr (Told c ∷ past) cs) = ap (is_known m) (names_more forgets name addr past c cs n.changes) ∙ among-cons_other names_order m c.name (names_after forgets name addr (Told c ∷ past) cs) d in
    record {
      hit = λ h. subst (Follows r) row (rest.hit (sym among ∙ h));
      missed = λ h. sym row ∙ rest.missed (sym among ∙ h);
    }

traced : (forgets : Bool) (name : List ℕ) (addr : Addr) (past : List OwnFact) (cs : List Claim) (m : List ℕ) (r : Claim) → row_at name_cmp name_of m (view_after forgets name addr (after_claims past cs)) ≡ Some r → Traced forgets name addr past cs m r
traced forgets name addr past [] m r e = record { hit = λ h. absurd (false≢true h); missed = λ h. e }
traced forgets name addr past (c ∷ cs) m r e =
    let rest : Traced forgets name addr (Told c ∷ past) cs m r = traced forgets name addr (Told c ∷ past) cs m r e in
    elim (view_hearing forgets name addr c past) [
      | Leaves f same ↦ (
          let names : names_after forgets name addr past (c ∷ cs) ≡ names_after forgets name addr (Told c ∷ past) cs = names_none forgets name addr past c cs f in
          record {
            hit = λ h. subst (λ v. Follows r (row_at name_cmp name_of m v)) same (rest.hit (sym (ap (is_known m) names) ∙ h));
            missed = λ h. sym (ap (row_at name_cmp name_of m) same) ∙ rest.missed (sym (ap (is_known m) names) ∙ h);
          })
      | Changes n ↦ elim (cases_key names_order c.name m) [
        | inl is ↦ subst (λ k. Traced forgets name addr past (c ∷ cs) k r) is (traced_hit forgets name addr past c cs r n (subst (λ k. Traced forgets name addr (Told c ∷ past) cs k r) (sym is) rest))
        | inr d ↦ traced_other forgets name addr past c cs m r n d rest
      ]
    ]

-- the test of two claims tells whether they are one
same_status : (s t : Status) → is_same_status s t ≡ true → s ≡ t
same_status Alive Alive e = refl
same_status (Suspect a) (Suspect b) e = ap Suspect (key_is names_order a b e)
same_status Failed Failed e = refl
same_status Left Left e = refl
same_status _ _ e = absurd (false≢true e)

status_itself : (s : Status) → is_same_status s s ≡ true
status_itself Alive = refl
status_itself (Suspect a) = same_key names_order a a refl
status_itself Failed = refl
status_itself Left = refl

same_ip : (a b : Ip) → is_same_ip a b ≡ true → a ≡ b
same_ip (V4 a) (V4 b) e = ap V4 ((bytes_eq-Decides a b).0 e)
same_ip (V6 a) (V6 b) e = ap V6 ((bytes_eq-Decides a b).0 e)
same_ip _ _ e = absurd (false≢true e)

ip_itself : (a : Ip) → is_same_ip a a ≡ true
ip_itself (V4 a) = (bytes_eq-Decides a a).1 refl
ip_itself (V6 a) = (bytes_eq-Decides a a).1 refl

same_addr : (a b : Addr) → is_same_addr a b ≡ true → a ≡ b
same_addr a b e =
    let h = and_parts (is_same_ip a.ip b.ip) (eqb a.port b.port) e in
    λ i. record { ip = same_ip a.ip b.ip h.0 i; port = eqb-true a.port b.port h.1 i }

addr_itself : (a : Addr) → is_same_addr a a ≡ true
addr_itself a = rw (ip_itself a.ip, eq-eqb a.port a.port refl)

pub same_claim : (c d : Claim) → is_same_claim c d ≡ true → c ≡ d
same_claim c d e =
    let h = and_parts (is_same name_cmp c.name d.name) (is_same_addr c.addr d.addr && (is_same_status c.status d.status && eqb c.incarnation d.incarnation)) e in
    let g = and_parts (is_same_addr c.addr d.addr) (is_same_status c.status d.status && eqb c.incarnation d.incarnation) h.1 in
    let f = and_parts (is_same_status c.status d.status) (eqb c.incarnation d.incarnation) g.1 in
    λ i. record { name = key_is names_order c.name d.name h.0 i; addr = same_addr c.addr d.addr g.0 i; status = same_status c.status d.status f.0 i; incarnation = eqb-true c.incarnation d.incarnation f.1 i }

pub claim_itself : (c : Claim) → is_same_claim c c ≡ true
claim_itself c = rw (same_key names_order c.name c.name refl, addr_itself c.addr, status_itself c.status, eq-eqb c.incarnation c.incarnation refl)

-- what overrides a record isn't it
fresh : (r : Claim) (o : Option Claim) → Follows r o → is_row r o ≡ false
fresh r None h = refl
fresh r (Some b) h = elim (cases_Bool (is_same_claim b r)) [
  | inl t ↦ absurd (false≢true (sym (ranked.not_itself r) ∙ subst (λ x. beats_of r x ≡ true) (same_claim b r t) h))
  | inr f ↦ f
]

-- a record of the view differs exactly where claims changed it
differs : (forgets : Bool) (name : List ℕ) (addr : Addr) (past : List OwnFact) (cs : List Claim) (r : Claim) → row_at name_cmp name_of r.name (view_after forgets name addr (after_claims past cs)) ≡ Some r
    → not (is_row r (row_at name_cmp name_of r.name (view_after forgets name addr past))) ≡ is_known r.name (names_after forgets name addr past cs)
differs forgets name addr past cs r e =
    let t = traced forgets name addr past cs r.name r e in
    elim (cases_Bool (is_known r.name (names_after forgets name addr past cs))) [
      | inl a ↦ ap not (fresh r (row_at name_cmp name_of r.name (view_after forgets name addr past)) (t.hit a)) ∙ sym a
      | inr b ↦ ap (λ o. not (is_row r o)) (t.missed b) ∙ ap not (claim_itself r) ∙ sym b
    ]

changed-past : (forgets : Bool) (name : List ℕ) (addr : Addr) (past : List OwnFact) (cs : List Claim)
    → changed (view_after forgets name addr past) (view_after forgets name addr (after_claims past cs)) ≡ filter (λ r. is_known r.name (names_after forgets name addr past cs)) (view_after forgets name addr (after_claims past cs))
changed-past forgets name addr past cs =
    let rows : List Claim = view_after forgets name addr (after_claims past cs) in
    filter_same (λ r. not (is_row r (row_at name_cmp name_of r.name (view_after forgets name addr past)))) (λ r. is_known r.name (names_after forgets name addr past cs)) (λ r. row_at name_cmp name_of r.name rows ≡ Some r) rows (differs forgets name addr past cs)
    (rows_found names_order name_of rows (rises-view forgets name addr (after_claims past cs)))

pub length-changed_names : (m : Standing) (cs : List Claim) → length (changed_names m cs) ≤ length cs
length-changed_names m [] = omega arith
length-changed_names m (c ∷ cs) = elim (cases_Bool (changes_record m c)) [
  | inl t ↦ rw t (omega (arith, length-changed_names (hear_claim m c) cs))
  | inr f ↦ rw f (omega (arith, length-changed_names (hear_claim m c) cs))
]

-- Once claims are heard after a past, the records that differ are those of the names that they changed,
pub changed-heard : (forgets : Bool) (name : List ℕ) (addr : Addr) (past : List OwnFact) (cs : List Claim) (m : Standing) → m ≡ standing_of forgets name addr past
    → changed (standing_view m) (standing_view (standing_after m cs)) ≡ filter (λ r. is_known r.name (changed_names m cs)) (standing_view (standing_after m cs))
changed-heard forgets name addr past cs m is =
    subst (λ (k : Standing). changed (standing_view k) (standing_view (standing_after k cs)) ≡ filter (λ r. is_known r.name (changed_names k cs)) (standing_view (standing_after k cs))) (sym is)
    (subst (λ (k : Standing). changed (view_after forgets name addr past) (standing_view k) ≡ filter (λ r. is_known r.name (names_after forgets name addr past cs)) (standing_view k)) (sym (hear_claims-standing forgets name addr past cs)) (changed-past forgets name addr past cs))

-- and they are no more than the claims.
pub length-changed_records : (forgets : Bool) (name : List ℕ) (addr : Addr) (past : List OwnFact) (cs : List Claim) (m : Standing) → m ≡ standing_of forgets name addr past
    → length (filter (λ r. is_known r.name (changed_names m cs)) (standing_view (standing_after m cs))) ≤ length cs
length-changed_records forgets name addr past cs m is =
    let few = subst (λ (k : Standing). length (filter (λ r. is_known r.name (changed_names m cs)) (standing_view k)) ≤ length (changed_names m cs))
    (sym (ap (λ k. standing_after k cs) is ∙ hear_claims-standing forgets name addr past cs))
    (few_among names_order name_of (changed_names m cs) (view_after forgets name addr (after_claims past cs)) (rises-view forgets name addr (after_claims past cs))) in
    omega (arith, few, length-changed_names m cs)

pub length-changed : (forgets : Bool) (name : List ℕ) (addr : Addr) (past : List OwnFact) (cs : List Claim) (m : Standing) → m ≡ standing_of forgets name addr past → length (changed (standing_view m) (standing_view (standing_after m cs))) ≤ length cs
length-changed forgets name addr past cs m is = subst (λ xs. length xs ≤ length cs) (sym (changed-heard forgets name addr past cs m is)) (length-changed_records forgets name addr past cs m is)
