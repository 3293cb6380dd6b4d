-- The others that are known, once one more fact comes.
use Rattle.std.proofs.Common.{◌≡◌, ◌≢◌, ℕ, suc, ◌<◌, ◌≤◌, Bool, true, false, not, ◌&&◌, ◌||◌, cond, List, [], ◌∷◌, length, inl, inr, refl, sym, ◌∙◌, ap, subst, arith, ltb}
use Rattle.std.proofs.lemmas.Bool.{cases_Bool, false≢true, and_parts, not-true, ltb-true}
use Rattle.lg_rules.specs.declared.claim.Claim.{Claim}
use Rattle.lg_rules.specs.Meaning.Claim.{is_gone}
use Rattle.lg_rules.specs.Meaning.Own.{OwnFact, Told, Forgets, TakesLeave}
use Rattle.lg_rules.specs.Meaning.Rows.{name_cmp, is_same, is_among, put_key, without_key, Rises}
use Rattle.lg_rules.specs.Meaning.Table.{lets_in, makes_known, roster}
use Rattle.lg_rules.proofs.KeyOrder.{names_order, same_key, other_key, cases_key, apart}
use Rattle.lg_rules.proofs.PastLaws.{neither}
use Rattle.lg_rules.proofs.Rises.{rises-put, rises-filter, among-put, among-put_other, among-filter, among-cons_other, length-put, not_among}

abbrev pub is_known : List ℕ → List (List ℕ) → Bool
is_known = is_among name_cmp

-- A claim that makes its member known is about another that is unknown, and there is room.
pub record IsNew (forgets : Bool) (own : List ℕ) (names : List (List ℕ)) (c : Claim) : Type 0 where
  pub made : makes_known forgets own names c ≡ true
  pub other : c.name ≢ own
  pub out : is_known c.name names ≡ false
  pub room : length names < 255
  pub let_in : lets_in forgets (length names) c ≡ true

pub is_new : (forgets : Bool) (own : List ℕ) (names : List (List ℕ)) (c : Claim) → makes_known forgets own names c ≡ true → IsNew forgets own names c
is_new forgets own names c e =
    let outer = and_parts (not (is_same name_cmp c.name own)) (not (is_known c.name names) && lets_in forgets (length names) c) e in
    let inner = and_parts (not (is_known c.name names)) (lets_in forgets (length names) c) outer.1 in
    let few = and_parts (ltb (length names) 255) (not (forgets && is_gone c.status)) inner.1 in
    record {
      made = e;
      other = apart names_order c.name own (not-true (is_same name_cmp c.name own) outer.0);
      out = not-true (is_known c.name names) inner.0;
      room = ltb-true (length names) 255 few.0;
      let_in = inner.1;
    }

-- Which claims make nobody known: those about oneself, those about who is known, and those that let nobody in.
pub makes-own : (forgets : Bool) (own : List ℕ) (names : List (List ℕ)) (c : Claim) → c.name ≡ own → makes_known forgets own names c ≡ false
makes-own forgets own names c e = rw (same_key names_order c.name own e)

never : (a b : Bool) → (not a && (not true && b)) ≡ false
never true b = refl
never false b = refl

pub makes-known : (forgets : Bool) (own : List ℕ) (names : List (List ℕ)) (c : Claim) → is_known c.name names ≡ true → makes_known forgets own names c ≡ false
makes-known forgets own names c a = rw a (never (is_same name_cmp c.name own) (lets_in forgets (length names) c))

pub makes-unknown : (forgets : Bool) (own : List ℕ) (names : List (List ℕ)) (c : Claim) → c.name ≢ own → is_known c.name names ≡ false
    → makes_known forgets own names c ≡ lets_in forgets (length names) c
makes-unknown forgets own names c d f = rw (other_key names_order c.name own d, f)

-- the keys but one
pub among-without : (m n : List ℕ) (ns : List (List ℕ)) → is_known m (without_key name_cmp n ns) ≡ (not (is_same name_cmp m n) && is_known m ns)
among-without m n ns = among-filter names_order (λ k. not (is_same name_cmp k n)) m ns

pub among-without_other : (m n : List ℕ) (ns : List (List ℕ)) → m ≢ n → is_known m (without_key name_cmp n ns) ≡ is_known m ns
among-without_other m n ns d = among-without m n ns ∙ ap (λ b. not b && is_known m ns) (other_key names_order m n d)

pub among-without_same : (n : List ℕ) (ns : List (List ℕ)) → is_known n (without_key name_cmp n ns) ≡ false
among-without_same n ns = among-without n n ns ∙ ap (λ b. not b && is_known n ns) (same_key names_order n n refl)

pub without-out : (n : List ℕ) (ns : List (List ℕ)) → is_known n ns ≡ false → without_key name_cmp n ns ≡ ns
without-out n [] f = refl
without-out n (x ∷ xs) f =
    let parts = neither (is_same name_cmp x n) (is_known n xs) f in
    rw parts.0 (ap (λ ms. x ∷ ms) (without-out n xs parts.1))

pub length-without : (n : List ℕ) (ns : List (List ℕ)) → Rises name_cmp ns → is_known n ns ≡ true → suc (length (without_key name_cmp n ns)) ≡ length ns
length-without n [] r a = absurd (false≢true a)
length-without n (x ∷ xs) r a = elim (cases_key names_order x n) [
  | inl e ↦ (
      let gone : is_known n xs ≡ false = subst (λ k. is_known k xs ≡ false) e (not_among names_order x xs r.0) in
      rw (same_key names_order x n e) (ap (λ ms. suc (length ms)) (without-out n xs gone)))
  | inr d ↦ rw (other_key names_order x n d) (ap suc (length-without n xs r.1 (sym (among-cons_other names_order n x xs d) ∙ a)))
]

pub length-without_le : (n : List ℕ) (ns : List (List ℕ)) → length (without_key name_cmp n ns) ≤ length ns
length-without_le n [] = omega arith
length-without_le n (x ∷ xs) = elim (cases_Bool (is_same name_cmp x n)) [
  | inl t ↦ rw t (omega (arith, length-without_le n xs))
  | inr f ↦ rw f (omega (arith, length-without_le n xs))
]

module _ (forgets : Bool) (own : List ℕ) where
  -- what each fact does to the names that are known
  pub roster-nil : roster forgets own [] ≡ []
  unfolding roster
  roster-nil = refl

  roster-told : (c : Claim) (past : List OwnFact)
      → roster forgets own (Told c ∷ past) ≡ cond (makes_known forgets own (roster forgets own past) c) (put_key name_cmp c.name (roster forgets own past)) (roster forgets own past)
  unfolding roster
  roster-told c past = refl

  pub roster-new : (c : Claim) (past : List OwnFact) → makes_known forgets own (roster forgets own past) c ≡ true
      → roster forgets own (Told c ∷ past) ≡ put_key name_cmp c.name (roster forgets own past)
  roster-new c past t = roster-told c past ∙ ap (λ b. cond b (put_key name_cmp c.name (roster forgets own past)) (roster forgets own past)) t

  pub roster-passed : (c : Claim) (past : List OwnFact) → makes_known forgets own (roster forgets own past) c ≡ false
      → roster forgets own (Told c ∷ past) ≡ roster forgets own past
  roster-passed c past f = roster-told c past ∙ ap (λ b. cond b (put_key name_cmp c.name (roster forgets own past)) (roster forgets own past)) f

  pub roster-forgot : (n : List ℕ) (past : List OwnFact) → roster forgets own (Forgets n ∷ past) ≡ without_key name_cmp n (roster forgets own past)
  unfolding roster
  roster-forgot n past = refl

  pub roster-leaves : (past : List OwnFact) → roster forgets own (TakesLeave ∷ past) ≡ roster forgets own past
  unfolding roster
  roster-leaves past = refl

  pub roster-own : (c : Claim) (past : List OwnFact) → c.name ≡ own → roster forgets own (Told c ∷ past) ≡ roster forgets own past
  roster-own c past e = roster-passed c past (makes-own forgets own (roster forgets own past) c e)

  -- What is told makes nobody unknown.
  pub stays_known : (c : Claim) (past : List OwnFact) (m : List ℕ) → is_known m (roster forgets own past) ≡ true → is_known m (roster forgets own (Told c ∷ past)) ≡ true
  stays_known c past m a = elim (cases_Bool (makes_known forgets own (roster forgets own past) c)) [
    | inl t ↦ ap (is_known m) (roster-new c past t) ∙ among-put names_order m c.name (roster forgets own past) ∙ later (is_same name_cmp c.name m) a
    | inr f ↦ ap (is_known m) (roster-passed c past f) ∙ a
  ]
    where
      later : (b : Bool) {d : Bool} → d ≡ true → (b || d) ≡ true
      later true e = refl
      later false e = e

  -- A claim makes nobody but its member known.
  pub others_known : (c : Claim) (past : List OwnFact) (m : List ℕ) → c.name ≢ m → is_known m (roster forgets own (Told c ∷ past)) ≡ is_known m (roster forgets own past)
  others_known c past m d = elim (cases_Bool (makes_known forgets own (roster forgets own past) c)) [
    | inl t ↦ ap (is_known m) (roster-new c past t) ∙ among-put_other names_order m c.name (roster forgets own past) d
    | inr f ↦ ap (is_known m) (roster-passed c past f)
  ]

  -- They are in the order of names,
  pub rises-roster : (past : List OwnFact) → Rises name_cmp (roster forgets own past)
  rises-roster [] = subst (Rises name_cmp) (sym roster-nil) tt
  rises-roster (Told c ∷ past) = elim (cases_Bool (makes_known forgets own (roster forgets own past) c)) [
    | inl t ↦ subst (Rises name_cmp) (sym (roster-new c past t)) (rises-put names_order c.name (roster forgets own past) (rises-roster past))
    | inr f ↦ subst (Rises name_cmp) (sym (roster-passed c past f)) (rises-roster past)
  ]
  rises-roster (Forgets n ∷ past) =
      subst (Rises name_cmp) (sym (roster-forgot n past)) (rises-filter names_order (λ k. not (is_same name_cmp k n)) (roster forgets own past) (rises-roster past))
  rises-roster (TakesLeave ∷ past) = subst (Rises name_cmp) (sym (roster-leaves past)) (rises-roster past)

  -- the own name isn't among them,
  pub own_unknown : (past : List OwnFact) → is_known own (roster forgets own past) ≡ false
  own_unknown [] = ap (is_known own) roster-nil
  own_unknown (Told c ∷ past) = elim (cases_Bool (makes_known forgets own (roster forgets own past) c)) [
    | inl t ↦ ap (is_known own) (roster-new c past t) ∙ among-put_other names_order own c.name (roster forgets own past) (is_new forgets own (roster forgets own past) c t).other ∙ own_unknown past
    | inr f ↦ ap (is_known own) (roster-passed c past f) ∙ own_unknown past
  ]
  own_unknown (Forgets n ∷ past) =
      ap (is_known own) (roster-forgot n past) ∙ among-without own n (roster forgets own past)
      ∙ ap (λ b. not (is_same name_cmp own n) && b) (own_unknown past) ∙ none (not (is_same name_cmp own n))
    where
      none : (b : Bool) → (b && false) ≡ false
      none true = refl
      none false = refl
  own_unknown (TakesLeave ∷ past) = ap (is_known own) (roster-leaves past) ∙ own_unknown past

  -- and there are at most 255.
  pub length-roster : (past : List OwnFact) → length (roster forgets own past) ≤ 255
  length-roster [] = omega (arith, ap length roster-nil)
  length-roster (Told c ∷ past) = elim (cases_Bool (makes_known forgets own (roster forgets own past) c)) [
    | inl t ↦ (
        let new = is_new forgets own (roster forgets own past) c t in
        omega (arith, ap length (roster-new c past t), length-put names_order c.name (roster forgets own past) new.out, new.room))
    | inr f ↦ omega (arith, ap length (roster-passed c past f), length-roster past)
  ]
  length-roster (Forgets n ∷ past) = omega (arith, ap length (roster-forgot n past), length-without_le n (roster forgets own past), length-roster past)
  length-roster (TakesLeave ∷ past) = omega (arith, ap length (roster-leaves past), length-roster past)

  -- What a claim about another does to the known names: its name is known, or joins them, or isn't let in.
  pub data Joined (c : Claim) (past : List OwnFact) : Type 0 where
    Knew : is_known c.name (roster forgets own past) ≡ true → roster forgets own (Told c ∷ past) ≡ roster forgets own past → Joined c past
    Joins : IsNew forgets own (roster forgets own past) c → roster forgets own (Told c ∷ past) ≡ put_key name_cmp c.name (roster forgets own past) → Joined c past
    Refused : is_known c.name (roster forgets own past) ≡ false → lets_in forgets (length (roster forgets own past)) c ≡ false
        → roster forgets own (Told c ∷ past) ≡ roster forgets own past → Joined c past

  pub joined : (c : Claim) (past : List OwnFact) → c.name ≢ own → Joined c past
  joined c past d = elim (cases_Bool (is_known c.name (roster forgets own past))) [
    | inl a ↦ Knew a (roster-passed c past (makes-known forgets own (roster forgets own past) c a))
    | inr f ↦ (
        let test = makes-unknown forgets own (roster forgets own past) c d f in
        elim (cases_Bool (lets_in forgets (length (roster forgets own past)) c)) [
          | inl t ↦ Joins (is_new forgets own (roster forgets own past) c (test ∙ t)) (roster-new c past (test ∙ t))
          | inr g ↦ Refused f g (roster-passed c past (test ∙ g))
        ])
  ]
