-- Rows whose keys rise: each is found by its key, and few have keys among a few.
use Rattle.std.proofs.Common.{◌≡◌, ◌≢◌, ℕ, zero, suc, ◌<◌, ◌≤◌, Bool, true, false, not, ◌||◌, List, [], ◌∷◌, length, map, get_or, take, Some, inl, inr, refl, sym, ◌∙◌, ap, subst, arith}
use Rattle.std.specs.Prelude.{filter}
use Rattle.std.specs.List.{AllByRecursion, list_any}
use Rattle.std.specs.declared.cmp.Ordering.{Ordering}
use Rattle.std.specs.declared.cmp.Ordering.TheVariants.{Less, Equal, Greater}
use Rattle.std.proofs.lemmas.Bool.{cases_Bool, false≢true}
use Rattle.lg_rules.specs.Meaning.Rows.{is_same, is_among, put_row, put_key, row_at, without_row, AreAbove, Rises}
use Rattle.lg_rules.proofs.Cases.{Below, Tied, Above, compared}
use Rattle.lg_rules.proofs.KeyOrder.{IsKeyOrder, turned, tied, same_key, other_key, cases_key, less_apart}
use Rattle.lg_rules.proofs.Rises.{rises-put, among-cons_other}

-- tests that agree where P holds keep the same
pub filter_same : {R : Type 0} (p q : R → Bool) (P : R → Type 0) (rows : List R) → ((x : R) → P x → p x ≡ q x) → AllByRecursion P rows → filter p rows ≡ filter q rows
filter_same p q P [] h a = refl
filter_same p q P (x ∷ xs) h a = rw (h x a.0, filter_same p q P xs h a.1)

-- where a test finds none, the rows that it doesn't find are all
pub filter-none : {R : Type 0} (p : R → Bool) (rows : List R) → list_any p rows ≡ false → filter (λ r. not (p r)) rows ≡ rows
filter-none p [] e = refl
filter-none p (x ∷ xs) e = elim (cases_Bool (p x)) [
  | inl t ↦ absurd (false≢true (sym e ∙ ap (λ b. b || list_any p xs) t))
  | inr f ↦ rw f (ap (λ rs. x ∷ rs) (filter-none p xs (sym (ap (λ b. b || list_any p xs) f) ∙ e)))
]

-- where a row of a front is to be kept too, what is kept of the front leaves room for it
pub filter_room : {R : Type 0} (p : R → Bool) (rows : List R) (k : ℕ) (d : R) → k < length rows → p (get_or rows k d) ≡ true → length (filter p (take k rows)) < length (filter p rows)
filter_room p [] k d l e = absurd (omega arith)
filter_room p (x ∷ xs) zero d l e = rw e (omega arith)
filter_room p (x ∷ xs) (suc k) d l e =
    let rest = filter_room p xs k d (omega arith) e in
    elim (cases_Bool (p x)) [ inl t ↦ rw t (omega (arith, rest)) | inr f ↦ rw f rest ]

module _ {K : Type 0} {cmp : K → K → Ordering} (order : IsKeyOrder cmp) {R : Type 0} (key : R → K) where
  -- a row is put among rows as its key is among keys
  pub keys-put : (r : R) (rows : List R) → map key (put_row cmp key r rows) ≡ put_key cmp (key r) (map key rows)
  keys-put r [] = refl
  keys-put r (x ∷ xs) = elim (compared (cmp (key r) (key x))) [
    | Below e ↦ rw e
    | Tied e ↦ rw e
    | Above e ↦ rw e (ap (λ ks. key x ∷ ks) (keys-put r xs))
  ]

  pub rises-put_row : (r : R) (rows : List R) → Rises cmp (map key rows) → Rises cmp (map key (put_row cmp key r rows))
  rises-put_row r rows h = subst (Rises cmp) (sym (keys-put r rows)) (rises-put order (key r) (map key rows) h)

  -- what is found among rows is found behind one with a lesser key
  found_behind : (x : R) (xs ys : List R) → AreAbove cmp (key x) (map key ys) → AllByRecursion (λ r. row_at cmp key (key r) xs ≡ Some r) ys → AllByRecursion (λ r. row_at cmp key (key r) (x ∷ xs) ≡ Some r) ys
  found_behind x xs [] a h = tt
  found_behind x xs (y ∷ ys) a h =
      let more : cmp (key y) (key x) ≡ Greater = turned order (key x) (key y) Less a.0 in
      (rw more h.0, found_behind x xs ys a.1 h.1)

  pub rows_found : (rows : List R) → Rises cmp (map key rows) → AllByRecursion (λ r. row_at cmp key (key r) rows ≡ Some r) rows
  rows_found [] r = tt
  rows_found (x ∷ xs) r =
      let level : cmp (key x) (key x) ≡ Equal = tied order (key x) (key x) refl in
      let first : row_at cmp key (key x) (x ∷ xs) ≡ Some x = rw level in
      (first, found_behind x xs xs r.0 (rows_found xs r.1))

  -- the keys without one
  abbrev others : K → List K → List K
  others n ns = without_row cmp (λ k. k) n ns

  length-others : (n : K) (ns : List K) → length (others n ns) ≤ length ns
  length-others n [] = omega arith
  length-others n (m ∷ ms) = elim (cases_Bool (is_same cmp m n)) [
    | inl t ↦ rw t (omega (arith, length-others n ms))
    | inr f ↦ rw f (omega (arith, length-others n ms))
  ]

  length-others_less : (n : K) (ns : List K) → is_among cmp n ns ≡ true → length (others n ns) < length ns
  length-others_less n [] a = absurd (false≢true a)
  length-others_less n (m ∷ ms) a = elim (cases_Bool (is_same cmp m n)) [
    | inl t ↦ rw t (omega (arith, length-others n ms))
    | inr f ↦ (
        let a' : is_among cmp n ms ≡ true = sym (ap (λ b. b || is_among cmp n ms) f) ∙ a in
        rw f (omega (arith, length-others_less n ms a')))
  ]

  among-others : (k n : K) (ns : List K) → k ≢ n → is_among cmp k (others n ns) ≡ is_among cmp k ns
  among-others k n [] d = refl
  among-others k n (m ∷ ms) d = elim (cases_key order m n) [
    | inl e ↦ rw (same_key order m n e) (among-others k n ms d ∙ sym (among-cons_other order k m ms (λ s. d (sym s ∙ e))))
    | inr u ↦ rw (other_key order m n u) (ap (λ b. is_same cmp m k || b) (among-others k n ms d))
  ]

  kept_without : (n : K) (ns : List K) (rows : List R) → AreAbove cmp n (map key rows) → filter (λ r. is_among cmp (key r) (others n ns)) rows ≡ filter (λ r. is_among cmp (key r) ns) rows
  kept_without n ns [] a = refl
  kept_without n ns (x ∷ xs) a = rw (among-others (key x) n ns (λ e. less_apart order n (key x) a.0 (sym e)), kept_without n ns xs a.1)

  -- no more rows have keys among these than there are keys
  pub few_among : (ns : List K) (rows : List R) → Rises cmp (map key rows) → length (filter (λ r. is_among cmp (key r) ns) rows) ≤ length ns
  few_among ns [] r = omega arith
  few_among ns (x ∷ xs) r = elim (cases_Bool (is_among cmp (key x) ns)) [
    | inl t ↦ rw t (omega (arith, few_among (others (key x) ns) xs r.1, ap length (kept_without (key x) ns xs r.0), length-others_less (key x) ns t))
    | inr f ↦ rw f (few_among ns xs r.1)
  ]
