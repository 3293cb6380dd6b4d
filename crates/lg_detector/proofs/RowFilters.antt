-- Rows in order of which a test keeps some: they are in order, and what is found among them.
use Rattle.std.proofs.Common.{◌≡◌, ◌≢◌, Bool, not, cond, List, [], ◌∷◌, map, Option, Some, None, inl, inr, refl, sym, ◌∙◌, ap, subst}
use Rattle.std.specs.Prelude.{filter}
use Rattle.std.proofs.lemmas.Bool.{cases_Bool}
use Rattle.std.specs.declared.cmp.Ordering.{Ordering}
use Rattle.std.specs.declared.cmp.Ordering.TheVariants.{Less}
use Rattle.lg_rules.specs.Meaning.Rows.{is_same, row_at, without_row, AreAbove, Rises}
use Rattle.lg_rules.proofs.Cases.{Below, Tied, Above, compared}
use Rattle.lg_rules.proofs.KeyOrder.{IsKeyOrder, other_key}
use Rattle.lg_rules.proofs.Rises.{above_lower}
use Rattle.lg_membership.proofs.Chosen.{found_key}

-- a row, if there is one and it passes a test
abbrev pub keep : {R : Type 0} → (R → Bool) → Option R → Option R
keep p None = None
keep p (Some r) = cond (p r) (Some r) None

-- no row above a key has it
row_above : {K : Type 0} (cmp : K → K → Ordering) {R : Type 0} (key : R → K) (n : K) (rows : List R) → AreAbove cmp n (map key rows) → row_at cmp key n rows ≡ None
row_above cmp key n [] above = refl
row_above cmp key n (x ∷ xs) above = rw above.0 refl

module _ {K : Type 0} {cmp : K → K → Ordering} (order : IsKeyOrder cmp) {R : Type 0} (key : R → K) (p : R → Bool) where
  pub above-kept : (n : K) (rows : List R) → AreAbove cmp n (map key rows) → AreAbove cmp n (map key (filter p rows))
  above-kept n [] above = above
  above-kept n (x ∷ xs) above = elim (cases_Bool (p x)) [
    | inl t ↦ rw t (above.0, above-kept n xs above.1)
    | inr f ↦ rw f (above-kept n xs above.1)
  ]

  pub rises-kept : (rows : List R) → Rises cmp (map key rows) → Rises cmp (map key (filter p rows))
  rises-kept [] rise = rise
  rises-kept (x ∷ xs) rise = elim (cases_Bool (p x)) [
    | inl t ↦ rw t (above-kept (key x) xs rise.0, rises-kept xs rise.1)
    | inr f ↦ rw f (rises-kept xs rise.1)
  ]

  pub row_at-kept : (n : K) (rows : List R) → Rises cmp (map key rows) → row_at cmp key n (filter p rows) ≡ keep p (row_at cmp key n rows)
  row_at-kept n [] rise = refl
  row_at-kept n (x ∷ xs) rise = elim (compared (cmp n (key x))) [
    | Below l ↦ (
        let none = row_above cmp key n (filter p (x ∷ xs)) (above-kept n (x ∷ xs) (l, above_lower order n (key x) (map key xs) l rise.0)) in
        none ∙ ap (keep p) (sym (missed l)))
    | Tied t ↦ elim (cases_Bool (p x)) [
      | inl y ↦ rw (y, t, y) refl
      | inr z ↦ (
          let above : AreAbove cmp n (map key xs) = subst (λ k. AreAbove cmp k (map key xs)) (sym (order.exact n (key x) t)) rise.0 in
          rw (z, t, z) (row_above cmp key n (filter p xs) (above-kept n xs above)))
    ]
    | Above g ↦ elim (cases_Bool (p x)) [
      | inl y ↦ rw (y, g) (row_at-kept n xs rise.1)
      | inr z ↦ rw (z, g) (row_at-kept n xs rise.1)
    ]
  ]
    where
      missed : cmp n (key x) ≡ Less → row_at cmp key n (x ∷ xs) ≡ None
      missed l = rw l refl

module _ {K : Type 0} {cmp : K → K → Ordering} (order : IsKeyOrder cmp) {R : Type 0} (key : R → K) where
  -- a row with another key is found still
  pub row_at-less : (m n : K) (rows : List R) → Rises cmp (map key rows) → m ≢ n → row_at cmp key n (without_row cmp key m rows) ≡ row_at cmp key n rows
  row_at-less m n rows rise d = row_at-kept order key (λ r. not (is_same cmp (key r) m)) n rows rise ∙ still (row_at cmp key n rows) (λ r e. found_key order key n rows r e)
    where
      still : (o : Option R) → ((r : R) → o ≡ Some r → key r ≡ n) → keep (λ r. not (is_same cmp (key r) m)) o ≡ o
      still None has = refl
      still (Some r) has = rw (other_key order (key r) m (λ e. d (sym e ∙ has r refl))) refl
