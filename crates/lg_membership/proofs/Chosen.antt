-- The rows whose keys are among some, one key after another.
use Rattle.std.proofs.Common.{◌≡◌, ◌≢◌, Bool, true, false, ◌||◌, List, [], ◌∷◌, ◌++◌, map, Some, None, inl, inr, refl, sym, ◌∙◌, ap, subst}
use Rattle.std.specs.Prelude.{filter}
use Rattle.std.proofs.lemmas.Bool.{cases_Bool}
use Rattle.std.specs.declared.cmp.Ordering.{Ordering}
use Rattle.std.specs.declared.cmp.Ordering.TheVariants.{Equal, Greater}
use Rattle.lg_rules.specs.Meaning.Rows.{is_same, is_among, put_row, row_at, AreAbove, Rises}
use Rattle.lg_rules.proofs.Cases.{Below, Tied, Above, compared, held_once}
use Rattle.lg_rules.proofs.KeyOrder.{IsKeyOrder, same_key, other_key, less_apart, tied}
use Rattle.lg_rules.proofs.Rises.{above_lower}

module _ {K : Type 0} {cmp : K → K → Ordering} (order : IsKeyOrder cmp) {R : Type 0} (key : R → K) where
  abbrev pub with_keys : List K → List R → List R
  with_keys ns rows = filter (λ r. is_among cmp (key r) ns) rows

  pub chosen-none : (rows : List R) → with_keys [] rows ≡ []
  chosen-none [] = refl
  chosen-none (x ∷ xs) = chosen-none xs

  or_false : (b : Bool) → (b || false) ≡ b
  or_false true = refl
  or_false false = refl

  or_true : (b : Bool) → (b || true) ≡ true
  or_true true = refl
  or_true false = refl

  or_assoc : (a b c : Bool) → (a || (b || c)) ≡ ((a || b) || c)
  or_assoc true b c = refl
  or_assoc false b c = refl

  among-append : (m : K) (ns : List K) (n : K) → is_among cmp m (ns ++ n ∷ []) ≡ (is_among cmp m ns || is_same cmp n m)
  among-append m [] n = or_false (is_same cmp n m)
  among-append m (k ∷ ns) n = ap (λ b. is_same cmp k m || b) (among-append m ns n) ∙ or_assoc (is_same cmp k m) (is_among cmp m ns) (is_same cmp n m)

  among-last : (m : K) (ns : List K) (n : K) → n ≡ m → is_among cmp m (ns ++ n ∷ []) ≡ true
  among-last m ns n e = among-append m ns n ∙ ap (λ b. is_among cmp m ns || b) (same_key order n m e) ∙ or_true (is_among cmp m ns)

  among-but_last : (m : K) (ns : List K) (n : K) → n ≢ m → is_among cmp m (ns ++ n ∷ []) ≡ is_among cmp m ns
  among-but_last m ns n d = among-append m ns n ∙ ap (λ b. is_among cmp m ns || b) (other_key order n m d) ∙ or_false (is_among cmp m ns)

  -- a key below all rows chooses none
  chosen-above : (n : K) (ns : List K) (rows : List R) → AreAbove cmp n (map key rows) → with_keys ns rows ≡ with_keys (ns ++ n ∷ []) rows
  chosen-above n ns [] above = refl
  chosen-above n ns (x ∷ xs) above =
      let same = among-but_last (key x) ns n (less_apart order n (key x) above.0) in
      let rest = chosen-above n ns xs above.1 in
      elim (cases_Bool (is_among cmp (key x) ns)) [
        | inl t ↦ (let t' = same ∙ t in rw (t, t') (ap (λ rs. x ∷ rs) rest))
        | inr f ↦ (let f' = same ∙ f in rw (f, f') rest)
      ]

  pub above-chosen : (n : K) (ns : List K) (rows : List R) → AreAbove cmp n (map key rows) → AreAbove cmp n (map key (with_keys ns rows))
  above-chosen n ns [] above = above
  above-chosen n ns (x ∷ xs) above = elim (cases_Bool (is_among cmp (key x) ns)) [
    | inl t ↦ rw t (above.0, above-chosen n ns xs above.1)
    | inr f ↦ rw f (above-chosen n ns xs above.1)
  ]

  pub put-below : (r : R) (rows : List R) → AreAbove cmp (key r) (map key rows) → put_row cmp key r rows ≡ r ∷ rows
  put-below r [] above = refl
  put-below r (x ∷ xs) above = rw above.0 refl

  -- the rows with some keys rise, too
  pub rises-chosen : (ns : List K) (rows : List R) → Rises cmp (map key rows) → Rises cmp (map key (with_keys ns rows))
  rises-chosen ns [] rise = rise
  rises-chosen ns (x ∷ xs) rise = elim (cases_Bool (is_among cmp (key x) ns)) [
    | inl t ↦ rw t (above-chosen (key x) ns xs rise.0, rises-chosen ns xs rise.1)
    | inr f ↦ rw f (rises-chosen ns xs rise.1)
  ]

  -- what is found under a key has it
  pub found_key : (n : K) (rows : List R) (r : R) → row_at cmp key n rows ≡ Some r → key r ≡ n
  found_key n [] r found = absurd cc
  found_key n (x ∷ xs) r found = elim (compared (cmp n (key x))) [
    | Below l ↦ (let bad : None ≡ Some r = rw l at found in absurd cc)
    | Tied t ↦ ap key (sym (held_once x r (rw t at found))) ∙ sym (order.exact n (key x) t)
    | Above g ↦ found_key n xs r (rw g at found)
  ]

  not_tied : (m n : K) → cmp m n ≡ Greater → m ≢ n
  not_tied m n g e = let differ : Greater ≡ Equal = sym g ∙ tied order m n e in absurd cc

  -- A key that no row has chooses no further row.
  pub chosen-missing : (n : K) (ns : List K) (rows : List R) → Rises cmp (map key rows) → row_at cmp key n rows ≡ None
      → with_keys ns rows ≡ with_keys (ns ++ n ∷ []) rows
  chosen-missing n ns [] rise gap = refl
  chosen-missing n ns (x ∷ xs) rise gap = elim (compared (cmp n (key x))) [
    | Below l ↦ chosen-above n ns (x ∷ xs) (l, above_lower order n (key x) (map key xs) l rise.0)
    | Tied t ↦ (let bad : Some x ≡ None = rw t at gap in absurd cc)
    | Above g ↦ (
        let same = among-but_last (key x) ns n (not_tied n (key x) g) in
        let rest = chosen-missing n ns xs rise.1 (rw g at gap) in
        elim (cases_Bool (is_among cmp (key x) ns)) [
          | inl t ↦ (let t' = same ∙ t in rw (t, t') (ap (λ rs. x ∷ rs) rest))
          | inr f ↦ (let f' = same ∙ f in rw (f, f') rest)
        ])
  ]

  -- The row that has it is put among those that were chosen before.
  pub chosen-put : (n : K) (ns : List K) (rows : List R) (r : R) → Rises cmp (map key rows) → row_at cmp key n rows ≡ Some r
      → key r ≡ n → put_row cmp key r (with_keys ns rows) ≡ with_keys (ns ++ n ∷ []) rows
  chosen-put n ns [] r rise found named = absurd cc
  chosen-put n ns (x ∷ xs) r rise found named = elim (compared (cmp n (key x))) [
    | Below l ↦ (let bad : None ≡ Some r = rw l at found in absurd cc)
    | Tied t ↦ (
        let is : x ≡ r = held_once x r (rw t at found) in
        subst (λ (q : R). put_row cmp key q (with_keys ns (x ∷ xs)) ≡ with_keys (ns ++ n ∷ []) (x ∷ xs)) is (itself x xs rise (order.exact n (key x) t)))
    | Above g ↦ (
        let same = among-but_last (key x) ns n (not_tied n (key x) g) in
        let rest = chosen-put n ns xs r rise.1 (rw g at found) named in
        let behind : cmp (key r) (key x) ≡ Greater = ap (λ k. cmp k (key x)) named ∙ g in
        elim (cases_Bool (is_among cmp (key x) ns)) [
          | inl t ↦ (let t' = same ∙ t in rw (t, t', behind) (ap (λ rs. x ∷ rs) rest))
          | inr f ↦ (let f' = same ∙ f in rw (f, f') rest)
        ])
  ]
    where
      itself : (y : R) (ys : List R) → Rises cmp (map key (y ∷ ys)) → n ≡ key y → put_row cmp key y (with_keys ns (y ∷ ys)) ≡ with_keys (ns ++ n ∷ []) (y ∷ ys)
      itself y ys up e =
          let last = among-last (key y) ns n e in
          let level = tied order (key y) (key y) refl in
          let rest = chosen-above n ns ys (subst (λ k. AreAbove cmp k (map key ys)) (sym e) up.0) in
          elim (cases_Bool (is_among cmp (key y) ns)) [
            | inl t ↦ rw (t, last, level) (ap (λ rs. y ∷ rs) rest)
            | inr f ↦ rw (f, last) (put-below y (with_keys ns ys) (above-chosen (key y) ns ys up.0) ∙ ap (λ rs. y ∷ rs) rest)
          ]
