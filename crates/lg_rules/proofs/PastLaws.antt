-- What one more element does to a past.
use Rattle.std.proofs.Common.{◌≡◌, ℕ, suc, ◌-◌, ◌≤◌, Bool, true, false, ◌||◌, not, cond, List, [], ◌∷◌, length, Option, Some, None, inl, inr, refl, sym, ◌∙◌, ap, subst, arith}
use Rattle.std.specs.List.{list_any}
use Rattle.std.proofs.lemmas.Bool.{not-true, cases_Bool, cases_lt, false≢true}
use Rattle.lg_rules.specs.Meaning.Past.{or_else, earliest, is_unbeaten, earliest_unbeaten, oldest}
use Rattle.lg_rules.proofs.Cases.{Missing, Holding, held, held_once}

-- Elements are ranked by what beats what: where c beats r, it stands above all that don't beat r.
pub record IsRanked {A : Type 0} (beats : A → A → Bool) : Type 0 where
  pub not_itself : (c : A) → beats c c ≡ false
  pub above : (c r d : A) → beats c r ≡ true → beats d r ≡ false → beats c d ≡ true
  pub not_below : (c r d : A) → beats c r ≡ true → beats d r ≡ false → beats d c ≡ false

-- what stands once c came, where this stood
abbrev pub after_hearing : {A : Type 0} → (A → A → Bool) → Option A → A → Option A
after_hearing beats None c = Some c
after_hearing beats (Some r) c = cond (beats c r) (Some c) (Some r)

-- one test as the last resort
abbrev given : {A : Type 0} → (A → Bool) → A → Option A
given p x = cond (p x) (Some x) None

given_passes : {A : Type 0} (p : A → Bool) (x r : A) → given p x ≡ Some r → (p x ≡ true) × (x ≡ r)
given_passes p x r e = elim (cases_Bool (p x)) [
  | inl t ↦ (let e' : Some x ≡ Some r = subst (λ b. cond b (Some x) None ≡ Some r) t e in (t, held_once x r e'))
  | inr f ↦ (let e' : None ≡ Some r = subst (λ b. cond b (Some x) None ≡ Some r) f e in absurd cc)
]

given_fails : {A : Type 0} (p : A → Bool) (x : A) → given p x ≡ None → p x ≡ false
given_fails p x e = elim (cases_Bool (p x)) [
  | inl t ↦ (let e' : Some x ≡ None = subst (λ b. cond b (Some x) None ≡ None) t e in absurd cc)
  | inr f ↦ f
]

-- the earliest that passes does pass
pub earliest_passes : {A : Type 0} (p : A → Bool) (past : List A) (r : A) → earliest p past ≡ Some r → p r ≡ true
earliest_passes p [] r e = absurd cc
earliest_passes p (x ∷ past) r e = elim (held (earliest p past)) [
  | Missing none ↦ (
      let h = given_passes p x r (subst (λ o. or_else o (given p x) ≡ Some r) none e) in
      ap p (sym h.1) ∙ h.0)
  | Holding s some ↦ earliest_passes p past r (some ∙ subst (λ o. or_else o (given p x) ≡ Some r) some e)
]

-- a stricter test finds none where the first finds none,
stricter_none : {A : Type 0} (p q : A → Bool) (past : List A) → ((x : A) → q x ≡ true → p x ≡ true) → earliest p past ≡ None → earliest q past ≡ None
stricter_none p q [] h e = refl
stricter_none p q (x ∷ past) h e = elim (held (earliest p past)) [
  | Missing none ↦ (
      let last : p x ≡ false = given_fails p x (subst (λ o. or_else o (given p x) ≡ None) none e) in
      let fails : q x ≡ false = elim (cases_Bool (q x)) [ inl t ↦ absurd (false≢true (sym last ∙ h x t)) | inr f ↦ f ] in
      rw (stricter_none p q past h none, fails))
  | Holding s some ↦ (let e' : Some s ≡ None = subst (λ o. or_else o (given p x) ≡ None) some e in absurd cc)
]

-- and finds what the first finds, where that passes it too
stricter_some : {A : Type 0} (p q : A → Bool) (past : List A) (r : A) → ((x : A) → q x ≡ true → p x ≡ true) → q r ≡ true → earliest p past ≡ Some r → earliest q past ≡ Some r
stricter_some p q [] r h t e = absurd cc
stricter_some p q (x ∷ past) r h t e = elim (held (earliest p past)) [
  | Missing none ↦ (
      let one : x ≡ r = (given_passes p x r (subst (λ o. or_else o (given p x) ≡ Some r) none e)).1 in
      let passes : q x ≡ true = ap q one ∙ t in
      rw (stricter_none p q past h none, passes) (ap Some one))
  | Holding s some ↦ (
      let rest : earliest p past ≡ Some r = some ∙ subst (λ o. or_else o (given p x) ≡ Some r) some e in
      rw (stricter_some p q past r h t rest))
]

-- neither of two that hold not together
pub neither : (a b : Bool) → (a || b) ≡ false → (a ≡ false) × (b ≡ false)
neither false b e = (refl, e)
neither true b e = absurd cc

-- where none of a past beats r, a test that fails all that don't beat r finds none
unranked_none : {A : Type 0} (beats : A → A → Bool) (r : A) (q : A → Bool) (past : List A) → list_any (λ d. beats d r) past ≡ false → ((d : A) → beats d r ≡ false → q d ≡ false) → earliest q past ≡ None
unranked_none beats r q [] top h = refl
unranked_none beats r q (x ∷ past) top h =
    let parts = neither (beats x r) (list_any (λ d. beats d r) past) top in
    rw (unranked_none beats r q past parts.1 h, h x parts.0)

-- and none of it beats what those don't beat
unranked_top : {A : Type 0} (beats : A → A → Bool) (r c : A) (past : List A) → list_any (λ d. beats d r) past ≡ false → ((d : A) → beats d r ≡ false → beats d c ≡ false) → list_any (λ d. beats d c) past ≡ false
unranked_top beats r c [] top h = refl
unranked_top beats r c (x ∷ past) top h =
    let parts = neither (beats x r) (list_any (λ d. beats d r) past) top in
    rw (h x parts.0, unranked_top beats r c past parts.1 h)

not_more : (a b : Bool) → not (a || b) ≡ true → not b ≡ true
not_more false b e = e
not_more true b e = absurd (false≢true e)

module _ {A : Type 0} {beats : A → A → Bool} (ranked : IsRanked beats) where
  -- r stood: c takes its place or not
  over : (c : A) (past : List A) (r : A) → earliest_unbeaten beats past ≡ Some r → earliest_unbeaten beats (c ∷ past) ≡ cond (beats c r) (Some c) (Some r)
  over c past r e =
      let p : A → Bool = is_unbeaten beats past in
      let q : A → Bool = is_unbeaten beats (c ∷ past) in
      let top : list_any (λ d. beats d r) past ≡ false = not-true _ (earliest_passes p past r e) in
      elim (cases_Bool (beats c r)) [
        | inl t ↦ (
            let gone : earliest q past ≡ None = unranked_none beats r q past top (λ d u. rw (ranked.above c r d t u)) in
            let passes : q c ≡ true = rw (ranked.not_itself c, unranked_top beats r c past top (λ d u. ranked.not_below c r d t u)) in
            let left : earliest q (c ∷ past) ≡ Some c = rw (gone, passes) in
            left ∙ ap (λ b. cond b (Some c) (Some r)) (sym t))
        | inr f ↦ (
            let kept : earliest q past ≡ Some r = stricter_some p q past r (λ z u. not_more (beats c z) (list_any (λ d. beats d z) past) u) (rw (f, top)) e in
            let left : earliest q (c ∷ past) ≡ Some r = rw kept in
            left ∙ ap (λ b. cond b (Some c) (Some r)) (sym f))
      ]

  -- a past that isn't empty has one that none beats
  pub unbeaten_some : (past : List A) → earliest_unbeaten beats past ≡ None → past ≡ []
  unbeaten_some [] e = refl
  unbeaten_some (x ∷ past) e = elim (held (earliest_unbeaten beats past)) [
    | Missing none ↦ (
        let before : past ≡ [] = unbeaten_some past none in
        let first : earliest_unbeaten beats (x ∷ []) ≡ Some x = rw (ranked.not_itself x) in
        let bad : Some x ≡ None = sym first ∙ ap (λ xs. earliest_unbeaten beats (x ∷ xs)) (sym before) ∙ e in
        absurd cc)
    | Holding r some ↦ (
        let bad : cond (beats x r) (Some x) (Some r) ≡ None = sym (over x past r some) ∙ e in
        absurd (some_either (beats x r) x r bad))
  ]
    where
      some_either : (b : Bool) (x y : A) → cond b (Some x) (Some y) ≡ None → ⊥
      some_either true x y e = cc
      some_either false x y e = cc

  -- the earliest that none beats, once c came
  pub unbeaten-cons : (c : A) (past : List A) → earliest_unbeaten beats (c ∷ past) ≡ after_hearing beats (earliest_unbeaten beats past) c
  unbeaten-cons c past = elim (held (earliest_unbeaten beats past)) [
    | Missing none ↦ (
        let before : past ≡ [] = unbeaten_some past none in
        let first : earliest_unbeaten beats (c ∷ []) ≡ Some c = rw (ranked.not_itself c) in
        ap (λ xs. earliest_unbeaten beats (c ∷ xs)) before ∙ first ∙ ap (λ o. after_hearing beats o c) (sym none))
    | Holding r some ↦ over c past r some ∙ ap (λ o. after_hearing beats o c) (sym some)
  ]

-- the first n that came: all, while there are no more
pub oldest-all : {A : Type 0} (n : ℕ) (past : List A) → length past ≤ n → oldest n past ≡ past
oldest-all n past few = let none : length past - n ≡ 0 = omega arith in rw none

pub oldest-more : {A : Type 0} (n : ℕ) (x : A) (past : List A) → n ≤ length past → oldest n (x ∷ past) ≡ oldest n past
oldest-more n x past many = let more : length (x ∷ past) - n ≡ suc (length past - n) = omega arith in rw more

pub length-oldest : {A : Type 0} (n : ℕ) (past : List A) → length (oldest n past) ≤ n
length-oldest {A} n [] = let none : oldest {A = A} n [] ≡ [] = oldest-all n [] (omega arith) in omega (arith, ap length none)
length-oldest n (x ∷ past) = elim (cases_lt (length past) n) [
  | inl few ↦ (let all : length (x ∷ past) ≤ n = omega arith in subst (λ xs. length xs ≤ n) (sym (oldest-all n (x ∷ past) all)) all)
  | inr many ↦ subst (λ xs. length xs ≤ n) (sym (oldest-more n x past many)) (length-oldest n past)
]
