-- Rows that are put one after another.
use Rattle.std.proofs.Common.{◌≡◌, ◌≢◌, Bool, true, false, cond, List, [], ◌∷◌, ◌++◌, map, Option, Some, None, inl, inr, refl, sym, ◌∙◌, ap, subst}
use Rattle.std.proofs.lemmas.Bool.{cases_Bool}
use Rattle.std.specs.declared.cmp.Ordering.{Ordering}
use Rattle.std.specs.declared.cmp.Ordering.TheVariants.{Less, Greater}
use Rattle.lg_rules.specs.Meaning.Rows.{is_same, is_among, put_row, row_at, AreAbove, Rises}
use Rattle.lg_rules.proofs.Cases.{Below, Tied, Above, compared, held_once}
use Rattle.lg_rules.proofs.KeyOrder.{IsKeyOrder, tied, turned, same_key, other_key, cases_key}
use Rattle.lg_rules.proofs.Rises.{above_lower}
use Rattle.lg_rules.proofs.RowLaws.{row_at-put}
use Rattle.lg_rules.proofs.RowsFound.{rises-put_row}
use Rattle.lg_membership.proofs.Chosen.{with_keys, chosen-put, above-chosen, put-below}

module _ {K : Type 0} {cmp : K → K → Ordering} (order : IsKeyOrder cmp) {R : Type 0} (key : R → K) where
  -- below all rows there is none
  row_at-above : (n : K) (rows : List R) → AreAbove cmp n (map key rows) → row_at cmp key n rows ≡ None
  row_at-above n [] above = refl
  row_at-above n (x ∷ xs) above = rw above.0 refl

  -- The same is found of a row itself.
  row_at-itself : (x : R) (xs : List R) → row_at cmp key (key x) (x ∷ xs) ≡ Some x
  row_at-itself x xs = rw (tied order (key x) (key x) refl) refl

  none_once : (x : R) → None ≢ Some x
  none_once x e = cc

  -- what two rows with one key have in common
  tail_same : (x : R) (xs ys : List R) → Rises cmp (map key (x ∷ xs)) → Rises cmp (map key (x ∷ ys))
      → ((n : K) → row_at cmp key n (x ∷ xs) ≡ row_at cmp key n (x ∷ ys)) → (n : K) → row_at cmp key n xs ≡ row_at cmp key n ys
  tail_same x xs ys up up' same n = elim (compared (cmp n (key x))) [
    | Below l ↦ (
        row_at-above n xs (above_lower order n (key x) (map key xs) l up.0)
        ∙ sym (row_at-above n ys (above_lower order n (key x) (map key ys) l up'.0)))
    | Tied t ↦ (
        let back : key x ≡ n = sym (order.exact n (key x) t) in
        row_at-above n xs (subst (λ k. AreAbove cmp k (map key xs)) back up.0)
        ∙ sym (row_at-above n ys (subst (λ k. AreAbove cmp k (map key ys)) back up'.0)))
    | Above g ↦ rw g at (same n)
  ]

  -- Rows in order in which the same is found of each key are the same.
  pub same_rows : (xs ys : List R) → Rises cmp (map key xs) → Rises cmp (map key ys)
      → ((n : K) → row_at cmp key n xs ≡ row_at cmp key n ys) → xs ≡ ys
  same_rows [] [] up up' same = refl
  same_rows [] (y ∷ ys) up up' same = absurd (none_once y (same (key y) ∙ row_at-itself y ys))
  same_rows (x ∷ xs) [] up up' same = absurd (none_once x (sym (same (key x)) ∙ row_at-itself x xs))
  same_rows (x ∷ xs) (y ∷ ys) up up' same = elim (compared (cmp (key x) (key y))) [
    | Below l ↦ absurd (none_once x (sym (row_at-above (key x) (y ∷ ys) (l, above_lower order (key x) (key y) (map key ys) l up'.0)) ∙ sym (same (key x)) ∙ row_at-itself x xs))
    | Tied t ↦ (
        let first : x ≡ y = held_once x y (sym (row_at-itself x xs) ∙ same (key x) ∙ (rw t refl)) in
        let up'' : Rises cmp (map key (x ∷ ys)) = subst (λ (z : R). Rises cmp (map key (z ∷ ys))) (sym first) up' in
        let same' : (n : K) → row_at cmp key n (x ∷ xs) ≡ row_at cmp key n (x ∷ ys) = λ n. same n ∙ ap (λ (z : R). row_at cmp key n (z ∷ ys)) (sym first) in
        ap (λ zs. x ∷ zs) (same_rows xs ys up.1 up'.1 (tail_same x xs ys up up'' same')) ∙ ap (λ (z : R). z ∷ ys) first)
    | Above g ↦ (
        let l : cmp (key y) (key x) ≡ Less = turned order (key x) (key y) Greater g in
        absurd (none_once y (sym (row_at-above (key y) (x ∷ xs) (l, above_lower order (key y) (key x) (map key xs) l up.0)) ∙ same (key y) ∙ row_at-itself y ys)))
  ]

  -- A row takes the place of an earlier one with its key.
  pub put_over : (a b : R) (rows : List R) → key a ≡ key b → Rises cmp (map key rows)
      → put_row cmp key a (put_row cmp key b rows) ≡ put_row cmp key a rows
  put_over a b rows e up =
      same_rows (put_row cmp key a (put_row cmp key b rows)) (put_row cmp key a rows)
      (rises-put_row order key a (put_row cmp key b rows) (rises-put_row order key b rows up)) (rises-put_row order key a rows up)
      (λ n.
      row_at-put order key n a (put_row cmp key b rows)
      ∙ ap (λ o. cond (is_same cmp (key a) n) (Some a) o) (row_at-put order key n b rows)
      ∙ ap (λ (k : K). cond (is_same cmp (key a) n) (Some a) (cond (is_same cmp k n) (Some b) (row_at cmp key n rows))) (sym e)
      ∙ twice (is_same cmp (key a) n) (row_at cmp key n rows)
      ∙ sym (row_at-put order key n a rows))
    where
      twice : (c : Bool) (o : Option R) → cond c (Some a) (cond c (Some b) o) ≡ cond c (Some a) o
      twice true o = refl
      twice false o = refl

  -- Rows with different keys can be put in either order.
  pub put_swapped : (a b : R) (rows : List R) → key a ≢ key b → Rises cmp (map key rows)
      → put_row cmp key a (put_row cmp key b rows) ≡ put_row cmp key b (put_row cmp key a rows)
  put_swapped a b rows apart up =
      same_rows (put_row cmp key a (put_row cmp key b rows)) (put_row cmp key b (put_row cmp key a rows))
      (rises-put_row order key a (put_row cmp key b rows) (rises-put_row order key b rows up))
      (rises-put_row order key b (put_row cmp key a rows) (rises-put_row order key a rows up))
      (λ n.
      row_at-put order key n a (put_row cmp key b rows)
      ∙ ap (λ o. cond (is_same cmp (key a) n) (Some a) o) (row_at-put order key n b rows)
      ∙ either n
      ∙ ap (λ o. cond (is_same cmp (key b) n) (Some b) o) (sym (row_at-put order key n a rows))
      ∙ sym (row_at-put order key n b (put_row cmp key a rows)))
    where
      either : (n : K) → cond (is_same cmp (key a) n) (Some a) (cond (is_same cmp (key b) n) (Some b) (row_at cmp key n rows))
          ≡ cond (is_same cmp (key b) n) (Some b) (cond (is_same cmp (key a) n) (Some a) (row_at cmp key n rows))
      either n = elim (cases_key order (key a) n) [
        | inl is ↦ (
            let here : is_same cmp (key a) n ≡ true = same_key order (key a) n is in
            let there : is_same cmp (key b) n ≡ false = other_key order (key b) n (λ e. apart (is ∙ sym e)) in
            rw (here, there) refl)
        | inr other ↦ (
            let here : is_same cmp (key a) n ≡ false = other_key order (key a) n other in
            rw here refl)
      ]

  -- Of the rows with some keys, a row that is put replaces what another put there.
  put_twice : (r : R) (ns : List K) (rows : List R) → Rises cmp (map key rows)
      → put_row cmp key r (with_keys order key ns (put_row cmp key r rows)) ≡ put_row cmp key r (with_keys order key ns rows)
  put_twice r ns [] up = elim (cases_Bool (is_among cmp (key r) ns)) [
    | inl t ↦ (let level = tied order (key r) (key r) refl in rw (t, level) refl)
    | inr f ↦ rw f refl
  ]
  put_twice r ns (x ∷ xs) up = elim (compared (cmp (key r) (key x))) [
    | Below l ↦ (
        let above : AreAbove cmp (key r) (map key (x ∷ xs)) = (l, above_lower order (key r) (key x) (map key xs) l up.0) in
        ap (λ zs. put_row cmp key r (with_keys order key ns zs)) (put-below order key r (x ∷ xs) above) ∙ first (x ∷ xs) above)
    | Tied t ↦ (
        let e : key r ≡ key x = order.exact (key r) (key x) t in
        let level = tied order (key r) (key r) refl in
        let among : is_among cmp (key x) ns ≡ is_among cmp (key r) ns = ap (λ k. is_among cmp k ns) (sym e) in
        elim (cases_Bool (is_among cmp (key r) ns)) [
          | inl hit ↦ (let hit' = among ∙ hit in rw (t, hit, hit', level, t) refl)
          | inr miss ↦ (let miss' = among ∙ miss in rw (t, miss, miss') refl)
        ])
    | Above g ↦ (
        let rest = put_twice r ns xs up.1 in
        elim (cases_Bool (is_among cmp (key x) ns)) [
          | inl t ↦ rw (g, t, g) (ap (λ zs. x ∷ zs) rest)
          | inr f ↦ rw (g, f) rest
        ])
  ]
    where
      first : (rows : List R) → AreAbove cmp (key r) (map key rows)
          → put_row cmp key r (with_keys order key ns (r ∷ rows)) ≡ put_row cmp key r (with_keys order key ns rows)
      first rows above = elim (cases_Bool (is_among cmp (key r) ns)) [
        | inl t ↦ (
            let level = tied order (key r) (key r) refl in
            let below = put-below order key r (with_keys order key ns rows) (above-chosen order key (key r) ns rows above) in
            rw (t, level) (sym below))
        | inr f ↦ rw f refl
      ]

  -- A row that is put among all, and among those with some keys: these are then those with its key too.
  pub chosen-more : (r : R) (ns : List K) (rows : List R) → Rises cmp (map key rows)
      → put_row cmp key r (with_keys order key ns rows) ≡ with_keys order key (ns ++ key r ∷ []) (put_row cmp key r rows)
  chosen-more r ns rows up =
      let found : row_at cmp key (key r) (put_row cmp key r rows) ≡ Some r =
      row_at-put order key (key r) r rows ∙ ap (λ b. cond b (Some r) (row_at cmp key (key r) rows)) (same_key order (key r) (key r) refl) in
      sym (put_twice r ns rows up)
      ∙ chosen-put order key (key r) ns (put_row cmp key r rows) r (rises-put_row order key r rows up) found refl
