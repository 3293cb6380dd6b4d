-- Names that are taken out of a row, and candidates that remain or don't.
use Rattle.std.proofs.Common.{
  ◌≡◌,
  ℕ,
  zero,
  suc,
  ◌<◌,
  true,
  false,
  List,
  [],
  ◌∷◌,
  length,
  Some,
  inl,
  inr,
  refl,
  sym,
  ◌∙◌,
  ap,
  subst,
  arith,
}
use Rattle.std.specs.Prelude.{slice_get, remove}
use Rattle.std.proofs.lemmas.Bool.{cases_Bool, false≢true}
use Rattle.std.proofs.lemmas.Option.{slice_get-get_or}
use Rattle.lg_rules.specs.Meaning.Rows.{name_cmp, is_same, is_among, Rises}
use Rattle.lg_rules.specs.Support.Places.{HasRow}
use Rattle.lg_rules.proofs.KeyOrder.{names_order, same_key, other_key}
use Rattle.lg_rules.proofs.Rises.{not_among}
use Rattle.lg_rules.proofs.RowsFound.{filter-none}
use Rattle.lg_probe.specs.Meaning.Order.{without, candidates, is_over}
use Rattle.lg_probe.proofs.OrderLaws.{among_at}

-- The name at a place is taken out by its place: no other is the same.
pub without_at : (n : List ℕ) (ns : List (List ℕ)) (k : ℕ) → Rises name_cmp ns → slice_get ns k ≡ Some n
    → remove ns k ≡ without n ns
without_at n [] k r e = absurd cc
without_at n (m ∷ ms) zero r e =
    let one : m ≡ n = cc in
    let same : is_same name_cmp m n ≡ true = same_key names_order m n one in
    rw same (sym (filter-none (λ x. is_same name_cmp x n) ms
    (subst (λ x. is_among name_cmp x ms ≡ false) one (not_among names_order m ms r.0))))
without_at n (m ∷ ms) (suc k) r e =
    let there : is_among name_cmp n ms ≡ true = among_at n ms k e in
    let other : is_same name_cmp m n ≡ false =
    other_key names_order m n
    (λ s. false≢true (sym (subst (λ x. is_among name_cmp x ms ≡ false) s (not_among names_order m ms r.0))
    ∙ there)) in
    rw other (ap (λ xs. m ∷ xs) (without_at n ms k r.1 e))

-- what is left of names where one is looked for, and is there or isn't
pub taken_out : (n : List ℕ) (ns : List (List ℕ)) (k : ℕ) → Rises name_cmp ns
    → HasRow {K = List ℕ} name_cmp {R = List ℕ} (λ m. m) n ns k → remove ns k ≡ without n ns
taken_out n ns k r has = without_at n ns k r (slice_get-get_or ns k n has.within ∙ ap Some (has.named n))

-- where no candidate remains, the cycle is over
pub over-none : (names cycle : List (List ℕ)) → candidates names cycle ≡ [] → is_over names cycle ≡ true
over-none [] cycle e = refl
over-none (n ∷ ns) cycle e = elim (cases_Bool (is_among name_cmp n cycle)) [
  | inl t ↦ rw t (over-none ns cycle (rw t at e))
  | inr f ↦ absurd (let e' : n ∷ candidates ns cycle ≡ [] = rw f at e in cc)
]

pub over-some : (names cycle : List (List ℕ)) → 0 < length (candidates names cycle) → is_over names cycle ≡ false
over-some [] cycle l = absurd (omega (arith, l))
over-some (n ∷ ns) cycle l = elim (cases_Bool (is_among name_cmp n cycle)) [
  | inl t ↦ rw t (over-some ns cycle (rw t at l))
  | inr f ↦ rw f
]

pub none_in : {A : Type 0} (xs : List A) → length xs ≡ 0 → xs ≡ []
none_in [] e = refl
none_in (x ∷ xs) e = absurd (omega (arith, e))
