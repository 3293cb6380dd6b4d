-- What a search by place finds among rows.
use Rattle.std.proofs.Common.{◌≡◌, ◌≢◌, ℕ, zero, suc, ◌+◌, ◌<◌, ◌≤◌, Bool, true, false, List, [], ◌∷◌, length, map, get_or, set, Some, None, refl, sym, ◌∙◌, ap, subst, arith}
use Rattle.std.specs.Prelude.{insert}
use Rattle.std.specs.List.{prefix_len}
use Rattle.std.specs.List.Sorted.{IsPartitionPoint, IsPartitionedBy}
use Rattle.std.specs.declared.cmp.Ordering.{Ordering}
use Rattle.std.specs.declared.cmp.Ordering.TheVariants.{Less, Equal, Greater}
use Rattle.std.specs.Ordering.{is_lt}
use Rattle.std.proofs.lemmas.List.Sums.{prefix_len-le-length}
use Rattle.lg_rules.specs.Meaning.Rows.{put_row, row_at, AreAbove, Rises}
use Rattle.lg_rules.specs.Support.Places.{HasRow, LacksRow}
use Rattle.lg_rules.proofs.Cases.{Below, Tied, Above, compared}
use Rattle.lg_rules.proofs.KeyOrder.{IsKeyOrder, turned, tied}

one_more : (n : ℕ) → 1 + n ≡ suc n
one_more n = omega arith

within_any : {A : Type 0} (xs : List A) (k : ℕ) (d e : A) → k < length xs → get_or xs k d ≡ get_or xs k e
within_any [] k d e l = absurd (omega arith)
within_any (x ∷ xs) zero d e l = refl
within_any (x ∷ xs) (suc k) d e l = within_any xs k d e (omega arith)

-- a partition point counts the elements at the front that pass the test
pub point_is : {A : Type 0} (p : A → Bool) (xs : List A) (i : ℕ) → i ≤ length xs → IsPartitionPoint (λ y. p y ≡ true) (λ y. p y ≡ false) xs i → i ≡ prefix_len p xs
point_is p [] i l h = omega arith
point_is p (x ∷ xs) zero l h = rw (h.1 0 x (omega arith) (omega arith))
point_is p (x ∷ xs) (suc i) l h =
    let rest = point_is p xs i (omega arith) (λ k d a b. h.0 (suc k) d (omega arith) (omega arith), λ k d a b. h.1 (suc k) d (omega arith) (omega arith)) in
    rw (h.0 0 x (omega arith) (omega arith)) (omega (arith, rest))

module _ {K : Type 0} {cmp : K → K → Ordering} (order : IsKeyOrder cmp) {R : Type 0} (key : R → K) where
  pub above_at : (m : K) (xs : List R) (j : ℕ) (d : R) → AreAbove cmp m (map key xs) → j < length xs → cmp m (key (get_or xs j d)) ≡ Less
  above_at m [] j d a l = absurd (omega arith)
  above_at m (x ∷ xs) zero d a l = a.0
  above_at m (x ∷ xs) (suc j) d a l = above_at m xs j d a.1 (omega arith)

  -- Where keys rise, those below a key stand before the others.
  pub parted : (n : K) (xs : List R) → Rises cmp (map key xs) → IsPartitionedBy (λ r. is_lt (cmp (key r) n)) xs
  parted n [] r i j d l m e = absurd (omega arith)
  parted n (x ∷ xs) r zero zero d l m e = e
  parted n (x ∷ xs) r zero (suc j) d l m e =
      rw (order.total.trans (key x) (key (get_or xs j d)) n (above_at (key x) xs j d r.0 (omega arith)) (is_less (cmp (key (get_or xs j d)) n) e))
    where
      is_less : (o : Ordering) → is_lt o ≡ true → o ≡ Less
      is_less Less e = refl
      is_less Equal e = absurd cc
      is_less Greater e = absurd cc
  parted n (x ∷ xs) r (suc i) zero d l m e = absurd (omega arith)
  parted n (x ∷ xs) r (suc i) (suc j) d l m e = parted n xs r.1 i j d (omega arith) (omega arith) e

  -- how many rows have a lesser key
  abbrev pub place : K → List R → ℕ
  place n rows = prefix_len (λ r. is_lt (cmp (key r) n)) rows

  -- what stands at the place of a key: rows that the key is above are passed by
  record IsPassed (n : K) (x : R) (xs : List R) : Type 0 where
    next : place n (x ∷ xs) ≡ suc (place n xs)
    back : cmp n (key x) ≡ Greater

  passed : (n : K) (x : R) (xs : List R) → cmp (key x) n ≡ Less → IsPassed n x xs
  passed n x xs l = record { next = rw l (one_more _); back = turned order (key x) n Less l }

  -- the row with the key is there
  module _ (n : K) (d : R) where
    found_at : (xs : List R) → place n xs < length xs → key (get_or xs (place n xs) d) ≡ n → row_at cmp key n xs ≡ Some (get_or xs (place n xs) d)
    found_at [] l e = absurd (omega arith)
    found_at (x ∷ xs) l e = elim (compared (cmp (key x) n)) [
      | Below b ↦ (
          let p = passed n x xs b in
          let e' : key (get_or xs (place n xs) d) ≡ n = subst (λ k. key (get_or (x ∷ xs) k d) ≡ n) p.next e in
          rw (p.next, p.back) (found_at xs (omega (arith, p.next)) e'))
      | Tied t ↦ (let level = turned order (key x) n Equal t in rw (t, level))
      | Above a ↦ (
          let front : place n (x ∷ xs) ≡ 0 = rw a in
          let e' : key x ≡ n = subst (λ k. key (get_or (x ∷ xs) k d) ≡ n) front e in
          let bad : Greater ≡ Equal = sym a ∙ tied order (key x) n e' in
          absurd cc)
    ]

    set_at : (r : R) (xs : List R) → key r ≡ n → place n xs < length xs → key (get_or xs (place n xs) d) ≡ n → set xs (place n xs) r ≡ put_row cmp key r xs
    set_at r [] is l e = absurd (omega arith)
    set_at r (x ∷ xs) is l e = elim (compared (cmp (key x) n)) [
      | Below b ↦ (
          let p = passed n x xs b in
          let e' : key (get_or xs (place n xs) d) ≡ n = subst (λ k. key (get_or (x ∷ xs) k d) ≡ n) p.next e in
          let more : cmp (key r) (key x) ≡ Greater = ap (λ k. cmp k (key x)) is ∙ p.back in
          rw (p.next, more) (ap (λ ys. x ∷ ys) (set_at r xs is (omega (arith, p.next)) e')))
      | Tied t ↦ (let level : cmp (key r) (key x) ≡ Equal = ap (λ k. cmp k (key x)) is ∙ turned order (key x) n Equal t in rw (t, level))
      | Above a ↦ (
          let front : place n (x ∷ xs) ≡ 0 = rw a in
          let e' : key x ≡ n = subst (λ k. key (get_or (x ∷ xs) k d) ≡ n) front e in
          let bad : Greater ≡ Equal = sym a ∙ tied order (key x) n e' in
          absurd cc)
    ]

    -- the key of what stands there, if anything does, is another
    IsElsewhere : List R → Type 0
    IsElsewhere xs = place n xs < length xs → key (get_or xs (place n xs) d) ≢ n

    elsewhere_next : (x : R) (xs : List R) → place n (x ∷ xs) ≡ suc (place n xs) → IsElsewhere (x ∷ xs) → IsElsewhere xs
    unfolding IsElsewhere
    elsewhere_next x xs p h l = subst (λ k. key (get_or (x ∷ xs) k d) ≢ n) p (h (omega (arith, p)))

    elsewhere_here : (x : R) (xs : List R) → place n (x ∷ xs) ≡ 0 → IsElsewhere (x ∷ xs) → key x ≢ n
    unfolding IsElsewhere
    elsewhere_here x xs p h = subst (λ k. key (get_or (x ∷ xs) k d) ≢ n) p (h (omega (arith, p)))

    missing_at : (xs : List R) → IsElsewhere xs → row_at cmp key n xs ≡ None
    missing_at [] h = refl
    missing_at (x ∷ xs) h = elim (compared (cmp (key x) n)) [
      | Below b ↦ (let p = passed n x xs b in rw p.back (missing_at xs (elsewhere_next x xs p.next h)))
      | Tied t ↦ absurd (elsewhere_here x xs (rw t) h (order.exact (key x) n t))
      | Above a ↦ (let less = turned order (key x) n Greater a in rw less)
    ]

    insert_at : (r : R) (xs : List R) → key r ≡ n → IsElsewhere xs → insert xs (place n xs) r ≡ put_row cmp key r xs
    insert_at r [] is h = refl
    insert_at r (x ∷ xs) is h = elim (compared (cmp (key x) n)) [
      | Below b ↦ (
          let p = passed n x xs b in
          let more : cmp (key r) (key x) ≡ Greater = ap (λ k. cmp k (key x)) is ∙ p.back in
          rw (p.next, more) (ap (λ ys. x ∷ ys) (insert_at r xs is (elsewhere_next x xs p.next h))))
      | Tied t ↦ absurd (elsewhere_here x xs (rw t) h (order.exact (key x) n t))
      | Above a ↦ (let less : cmp (key r) (key x) ≡ Less = ap (λ k. cmp k (key x)) is ∙ turned order (key x) n Greater a in rw (a, less))
    ]

  -- Of the place k that was found, and the row x that was read there:
  pub has_row : (n : K) (k : ℕ) (x : R) (xs : List R) → k ≡ place n xs → k < length xs → x ≡ get_or xs k x → key x ≡ n → HasRow cmp key n xs k
  has_row n k x xs is l read named =
      let l' : place n xs < length xs = subst (λ j. j < length xs) is l in
      let at : (d : R) → key (get_or xs (place n xs) d) ≡ n = λ d. ap key (within_any xs (place n xs) d x l' ∙ sym (subst (λ j. x ≡ get_or xs j x) is read)) ∙ named in
      record {
        within = l;
        named = λ d. rw is (at d);
        found = λ d. rw is (found_at n d xs l' (at d));
        set = λ r e. rw is (set_at n x r xs e l' (at x));
      }

  pub lacks_row : (n : K) (k : ℕ) (x : R) (xs : List R) → k ≡ place n xs → (k < length xs → key (get_or xs k x) ≢ n) → LacksRow cmp key n xs k
  unfolding IsElsewhere
  lacks_row n k x xs is other =
      let h : IsElsewhere n x xs = subst (λ j. j < length xs → key (get_or xs j x) ≢ n) is other in
      record {
        within = rw is (prefix_len-le-length (λ r. is_lt (cmp (key r) n)) xs);
        missing = missing_at n x xs h;
        insert = λ r e. rw is (insert_at n x r xs e h);
      }

  -- and where all rows have lesser keys:
  pub lacks_end : (n : K) (k : ℕ) (xs : List R) → k ≡ place n xs → length xs ≤ k → LacksRow cmp key n xs k
  lacks_end n k [] is l = record { within = rw is (omega arith); missing = refl; insert = λ r e. rw is }
  lacks_end n k (x ∷ xs) is l = lacks_row n k x (x ∷ xs) is (λ m. absurd (omega arith))
