-- The first rows that a test finds, and one more put among them.
use Rattle.std.proofs.Common.{◌≡◌, ℕ, zero, suc, ◌≤◌, Bool, true, false, List, [], ◌∷◌, ◌++◌, length, map, take, drop, Some, None, inl, inr, refl, sym, ◌∙◌, ap, arith}
use Rattle.std.specs.Prelude.{filter}
use Rattle.std.proofs.lemmas.Bool.{cases_Bool}
use Rattle.std.proofs.lemmas.List.{take-append-drop}
use Rattle.std.proofs.lemmas.List.Elements.{filter-append}
use Rattle.std.proofs.Math.Seq.{take-append_seam}
use Rattle.std.specs.declared.cmp.Ordering.{Ordering}
use Rattle.lg_rules.specs.Meaning.Rows.{put_row, row_at, AreAbove, Rises}
use Rattle.lg_rules.proofs.Cases.{Below, Tied, Above, compared}
use Rattle.lg_rules.proofs.KeyOrder.{IsKeyOrder}
use Rattle.lg_rules.proofs.Rises.{above_lower}

-- the first few of the first few
pub take-fewer : {A : Type 0} (j k : ℕ) (xs : List A) → j ≤ k → take j (take k xs) ≡ take j xs
take-fewer zero k xs l = refl
take-fewer (suc j) zero xs l = absurd (omega arith)
take-fewer (suc j) (suc k) [] l = refl
take-fewer (suc j) (suc k) (x ∷ xs) l = ap (λ rs. x ∷ rs) (take-fewer j k xs (omega arith))

-- Where a front has as many rows that pass as are wanted, they are the first of all.
pub enough-found : {A : Type 0} (p : A → Bool) (i : ℕ) (xs : List A) → take (length (filter p (take i xs))) (filter p xs) ≡ filter p (take i xs)
enough-found p i xs =
    let front = filter p (take i xs) in
    let parts : filter p xs ≡ front ++ filter p (drop i xs) = ap (filter p) (sym (take-append-drop i xs)) ∙ filter-append p (take i xs) (drop i xs) in
    ap (take (length front)) parts ∙ take-append_seam front (filter p (drop i xs))

module _ {K : Type 0} {cmp : K → K → Ordering} (order : IsKeyOrder cmp) {R : Type 0} (key : R → K) where
  -- a row that is put among the first is cut off where it comes after them
  pub take-put : (k : ℕ) (r : R) (rows : List R) → take k (put_row cmp key r (take k rows)) ≡ take k (put_row cmp key r rows)
  take-put zero r rows = refl
  take-put (suc k) r [] = refl
  take-put (suc k) r (x ∷ xs) = elim (compared (cmp (key r) (key x))) [
    | Below l ↦ rw l (ap (λ rs. r ∷ rs) (take-fewer k (suc k) (x ∷ xs) (omega arith)))
    | Tied t ↦ rw t (ap (λ rs. r ∷ rs) (take-fewer k k xs (omega arith)))
    | Above a ↦ rw a (ap (λ rs. x ∷ rs) (take-put k r xs))
  ]

  -- what is kept of rising rows rises
  above-take : (n : K) (k : ℕ) (rows : List R) → AreAbove cmp n (map key rows) → AreAbove cmp n (map key (take k rows))
  above-take n zero rows above = tt
  above-take n (suc k) [] above = tt
  above-take n (suc k) (x ∷ xs) above = (above.0, above-take n k xs above.1)

  pub rises-take : (k : ℕ) (rows : List R) → Rises cmp (map key rows) → Rises cmp (map key (take k rows))
  rises-take zero rows rise = tt
  rises-take (suc k) [] rise = tt
  rises-take (suc k) (x ∷ xs) rise = (above-take (key x) k xs rise.0, rises-take k xs rise.1)

  above-filter : (p : R → Bool) (n : K) (rows : List R) → AreAbove cmp n (map key rows) → AreAbove cmp n (map key (filter p rows))
  above-filter p n [] above = above
  above-filter p n (x ∷ xs) above = elim (cases_Bool (p x)) [
    | inl t ↦ rw t (above.0, above-filter p n xs above.1)
    | inr f ↦ rw f (above-filter p n xs above.1)
  ]

  pub rises-passed : (p : R → Bool) (rows : List R) → Rises cmp (map key rows) → Rises cmp (map key (filter p rows))
  rises-passed p [] rise = rise
  rises-passed p (x ∷ xs) rise = elim (cases_Bool (p x)) [
    | inl t ↦ rw t (above-filter p (key x) xs rise.0, rises-passed p xs rise.1)
    | inr f ↦ rw f (rises-passed p xs rise.1)
  ]

  module _ (p : R → Bool) where
    above-passed : (r : R) (rows : List R) → AreAbove cmp (key r) (map key rows) → put_row cmp key r (filter p rows) ≡ r ∷ filter p rows
    above-passed r [] above = refl
    above-passed r (x ∷ xs) above = elim (cases_Bool (p x)) [
      | inl t ↦ rw (t, above.0) refl
      | inr f ↦ rw f (above-passed r xs above.1)
    ]

    -- If no row has its key, a row that doesn't pass changes nothing, and one that passes is put among those that do.
    pub filter-put_other : (r : R) (rows : List R) → row_at cmp key (key r) rows ≡ None → p r ≡ false
        → filter p (put_row cmp key r rows) ≡ filter p rows
    filter-put_other r [] missing out = rw out refl
    filter-put_other r (x ∷ xs) missing out = elim (compared (cmp (key r) (key x))) [
      | Below l ↦ rw (l, out) refl
      | Tied t ↦ (let bad : Some x ≡ None = rw t at missing in absurd cc)
      | Above a ↦ (
          let rest = filter-put_other r xs (rw a at missing) out in
          elim (cases_Bool (p x)) [
            | inl t ↦ rw (a, t) (ap (λ rs. x ∷ rs) rest)
            | inr f ↦ rw (a, f) rest
          ])
    ]

    pub filter-put : (r : R) (rows : List R) → Rises cmp (map key rows) → row_at cmp key (key r) rows ≡ None → p r ≡ true
        → filter p (put_row cmp key r rows) ≡ put_row cmp key r (filter p rows)
    filter-put r [] rise missing passes = rw passes refl
    filter-put r (x ∷ xs) rise missing passes = elim (compared (cmp (key r) (key x))) [
      | Below l ↦ (
          let above : AreAbove cmp (key r) (map key (x ∷ xs)) = (l, above_lower order (key r) (key x) (map key xs) l rise.0) in
          let left : filter p (put_row cmp key r (x ∷ xs)) ≡ r ∷ filter p (x ∷ xs) = rw (l, passes) refl in
          left ∙ sym (above-passed r (x ∷ xs) above))
      | Tied t ↦ (let bad : Some x ≡ None = rw t at missing in absurd cc)
      | Above a ↦ (
          let rest = filter-put r xs rise.1 (rw a at missing) passes in
          elim (cases_Bool (p x)) [
            | inl t ↦ rw (a, t, a) (ap (λ rs. x ∷ rs) rest)
            | inr f ↦ rw (a, f) rest
          ])
    ]
