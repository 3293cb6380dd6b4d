-- Rows without the one that has a key.
use Rattle.std.proofs.Common.{◌≡◌, ℕ, not, zero, suc, ◌<◌, false, true, List, [], ◌∷◌, length, map, get_or, None, subst, Some, inl, inr, refl, sym, ◌∙◌, ap, arith}
use Rattle.std.specs.Prelude.{filter}
use Rattle.std.specs.List.{remove}
use Rattle.std.proofs.lemmas.Bool.{cases_Bool}
use Rattle.std.specs.declared.cmp.Ordering.{Ordering}
use Rattle.std.specs.declared.cmp.Ordering.TheVariants.{Less, Equal, Greater}
use Rattle.lg_rules.specs.Meaning.Rows.{is_same, row_at, without_row, AreAbove, Rises}
use Rattle.lg_rules.specs.Support.Places.{HasRow}
use Rattle.lg_rules.proofs.Cases.{Below, Tied, Above, compared}
use Rattle.lg_rules.proofs.KeyOrder.{IsKeyOrder, same_key, other_key, less_apart, tied}
use Rattle.lg_rules.proofs.Rises.{above_lower, rises-filter}

module _ {K : Type 0} {cmp : K → K → Ordering} (order : IsKeyOrder cmp) {R : Type 0} (key : R → K) where
  -- rows that are all above a key stay without it
  without-above : (n : K) (rows : List R) → AreAbove cmp n (map key rows) → without_row cmp key n rows ≡ rows
  without-above n [] above = refl
  without-above n (x ∷ xs) above =
      rw (other_key order (key x) n (λ e. less_apart order n (key x) above.0 (sym e))) (ap (λ rs. x ∷ rs) (without-above n xs above.1))

  -- and so do rows of which none has it
  pub without-missing : (n : K) (rows : List R) → Rises cmp (map key rows) → row_at cmp key n rows ≡ None → without_row cmp key n rows ≡ rows
  without-missing n [] rise gap = refl
  without-missing n (x ∷ xs) rise gap = elim (compared (cmp n (key x))) [
    | Below l ↦ without-above n (x ∷ xs) (l, above_lower order n (key x) (map key xs) l rise.0)
    | Tied t ↦ (let bad : Some x ≡ None = rw t at gap in absurd cc)
    | Above g ↦ rw (other_key order (key x) n (λ e. apart_above x g e)) (ap (λ rs. x ∷ rs) (without-missing n xs rise.1 (rw g at gap)))
  ]
    where
      apart_above : (y : R) → cmp n (key y) ≡ Greater → key y ≡ n → ⊥
      apart_above y g e = let differ : Greater ≡ Equal = sym g ∙ tied order n (key y) (sym e) in absurd cc

  above-at : (m : K) (rows : List R) (at : ℕ) (d : R) → AreAbove cmp m (map key rows) → at < length rows → cmp m (key (get_or rows at d)) ≡ Less
  above-at m [] at d above within = absurd (omega arith)
  above-at m (x ∷ xs) zero d above within = above.0
  above-at m (x ∷ xs) (suc k) d above within = above-at m xs k d above.1 (omega arith)

  -- The row with a key is taken out at its place: the others are left.
  pub remove-without : (n : K) (rows : List R) (at : ℕ) (d : R) → Rises cmp (map key rows) → at < length rows → key (get_or rows at d) ≡ n
      → remove rows at ≡ without_row cmp key n rows
  remove-without n [] at d rise within named = absurd (omega arith)
  remove-without n (x ∷ xs) zero d rise within named =
      rw (same_key order (key x) n named) (sym (without-above n xs (subst (λ k. AreAbove cmp k (map key xs)) named rise.0)))
  remove-without n (x ∷ xs) (suc k) d rise within named =
      rw (other_key order (key x) n (λ e. less_apart order (key x) (key (get_or xs k d)) (above-at (key x) xs k d rise.0 (omega arith)) (e ∙ sym named))) (ap (λ rs. x ∷ rs) (remove-without n xs k d rise.1 (omega arith) named))

  -- no row that is left has the key
  pub row_at-without : (n : K) (rows : List R) → row_at cmp key n (without_row cmp key n rows) ≡ None
  row_at-without n [] = refl
  row_at-without n (x ∷ xs) = elim (cases_Bool (is_same cmp (key x) n)) [
    | inl t ↦ rw t (row_at-without n xs)
    | inr f ↦ rw f (elim (compared (cmp n (key x))) [
      | Below l ↦ rw l refl
      | Tied t ↦ (let bad : false ≡ true = sym f ∙ same_key order (key x) n (sym (order.exact n (key x) t)) in absurd cc)
      | Above g ↦ rw g (row_at-without n xs)
    ])
  ]

  -- the keys of those that are left
  keys-without : (n : K) (rows : List R)
      → map key (without_row cmp key n rows) ≡ filter (λ k. not (is_same cmp k n)) (map key rows)
  keys-without n [] = refl
  keys-without n (x ∷ xs) = elim (cases_Bool (is_same cmp (key x) n)) [
    | inl t ↦ rw t (keys-without n xs)
    | inr f ↦ rw f (ap (λ ks. key x ∷ ks) (keys-without n xs))
  ]

  pub rises-without : (n : K) (rows : List R) → Rises cmp (map key rows) → Rises cmp (map key (without_row cmp key n rows))
  rises-without n rows rise =
      subst (Rises cmp) (sym (keys-without n rows)) (rises-filter order (λ k. not (is_same cmp k n)) (map key rows) rise)

  -- a key stands at one place
  pub at-once : (rows : List R) (i j : ℕ) (d : R) → Rises cmp (map key rows) → i < length rows → j < length rows
      → key (get_or rows i d) ≡ key (get_or rows j d) → i ≡ j
  at-once [] i j d rise l m e = absurd (omega arith)
  at-once (x ∷ xs) zero zero d rise l m e = refl
  at-once (x ∷ xs) zero (suc j) d rise l m e =
      absurd (less_apart order (key x) (key (get_or xs j d)) (above-at (key x) xs j d rise.0 (omega arith)) e)
  at-once (x ∷ xs) (suc i) zero d rise l m e =
      absurd (less_apart order (key x) (key (get_or xs i d)) (above-at (key x) xs i d rise.0 (omega arith)) (sym e))
  at-once (x ∷ xs) (suc i) (suc j) d rise l m e = ap suc (at-once xs i j d rise.1 (omega arith) (omega arith) e)

  -- the row with a key is taken out where it was found
  pub removed-row : (n : K) (rows : List R) (at : ℕ) → Rises cmp (map key rows) → HasRow cmp key n rows at
      → remove rows at ≡ without_row cmp key n rows
  removed-row n [] at rise has = (let none : at < 0 = has.within in absurd (omega arith))
  removed-row n (x ∷ xs) at rise has = remove-without n (x ∷ xs) at x rise has.within (has.named x)
