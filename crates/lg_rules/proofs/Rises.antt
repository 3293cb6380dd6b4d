-- Keys in rising order.
use Rattle.std.proofs.Common.{◌≡◌, suc, ◌≤◌, Bool, true, false, ◌||◌, ◌&&◌, List, [], ◌∷◌, length, inl, inr, refl, sym, ◌∙◌, ap, subst, arith}
use Rattle.std.specs.Prelude.{filter}
use Rattle.std.specs.declared.cmp.Ordering.{Ordering}
use Rattle.std.specs.declared.cmp.Ordering.TheVariants.{Less, Greater}
use Rattle.std.proofs.lemmas.Bool.{cases_Bool, false≢true}
use Rattle.lg_rules.specs.Meaning.Rows.{is_same, is_among, put_key, in_order, distinct, AreAbove, Rises}
use Rattle.lg_rules.proofs.Cases.{Below, Tied, Above, compared}
use Rattle.lg_rules.proofs.KeyOrder.{IsKeyOrder, turned, same_key, other_key, cases_key, less_apart}

or_later : (a : Bool) {b : Bool} → b ≡ true → (a || b) ≡ true
or_later true e = refl
or_later false e = e

or_swap : (a b c : Bool) → (a || (b || c)) ≡ (b || (a || c))
or_swap true true c = refl
or_swap true false c = refl
or_swap false b c = refl

or_twice : (a b : Bool) → (a || b) ≡ (a || (a || b))
or_twice true b = refl
or_twice false b = refl

module _ {K : Type 0} {cmp : K → K → Ordering} (order : IsKeyOrder cmp) where
  pub above_lower : (m n : K) (ns : List K) → cmp m n ≡ Less → AreAbove cmp n ns → AreAbove cmp m ns
  above_lower m n [] l a = a
  above_lower m n (x ∷ xs) l a = (order.total.trans m n x l a.0, above_lower m n xs l a.1)

  above_put : (m n : K) (ns : List K) → cmp m n ≡ Less → AreAbove cmp m ns → AreAbove cmp m (put_key cmp n ns)
  above_put m n [] l a = (l, tt)
  above_put m n (x ∷ xs) l a = elim (compared (cmp n x)) [
    | Below e ↦ rw e (l, a)
    | Tied e ↦ rw e (l, a.1)
    | Above e ↦ rw e (a.0, above_put m n xs l a.1)
  ]

  pub rises-put : (n : K) (ns : List K) → Rises cmp ns → Rises cmp (put_key cmp n ns)
  rises-put n [] r = (tt, tt)
  rises-put n (x ∷ xs) r = elim (compared (cmp n x)) [
    | Below e ↦ rw e ((e, above_lower n x xs e r.0), r)
    | Tied e ↦ rw e (subst (λ y. AreAbove cmp y xs) (sym (order.exact n x e)) r.0, r.1)
    | Above e ↦ rw e (above_put x n xs (turned order n x Greater e) r.0, rises-put n xs r.1)
  ]

  pub rises-in_order : (ns : List K) → Rises cmp (in_order cmp ns)
  rises-in_order [] = tt
  rises-in_order (n ∷ ns) = rises-put n (in_order cmp ns) (rises-in_order ns)

  -- what is among keys once one more is put
  pub among-put : (m n : K) (ns : List K) → is_among cmp m (put_key cmp n ns) ≡ (is_same cmp n m || is_among cmp m ns)
  among-put m n [] = refl
  among-put m n (x ∷ xs) = elim (compared (cmp n x)) [
    | Below e ↦ rw e
    | Tied e ↦ rw e (once n x (order.exact n x e))
    | Above e ↦ rw (e, among-put m n xs) (or_swap (is_same cmp x m) (is_same cmp n m) (is_among cmp m xs))
  ]
    where
      once : (n x : K) → n ≡ x → (is_same cmp n m || is_among cmp m xs) ≡ (is_same cmp n m || (is_same cmp x m || is_among cmp m xs))
      once n x e = or_twice (is_same cmp n m) (is_among cmp m xs) ∙ ap (λ y. is_same cmp n m || (is_same cmp y m || is_among cmp m xs)) e

  pub among-put_same : (n : K) (ns : List K) → is_among cmp n (put_key cmp n ns) ≡ true
  among-put_same n ns = among-put n n ns ∙ ap (λ b. b || is_among cmp n ns) (same_key order n n refl)

  pub among-put_other : (m n : K) (ns : List K) → (n ≡ m → ⊥) → is_among cmp m (put_key cmp n ns) ≡ is_among cmp m ns
  among-put_other m n ns d = among-put m n ns ∙ ap (λ b. b || is_among cmp m ns) (other_key order n m d)

  pub among-in_order : (m : K) (ns : List K) → is_among cmp m (in_order cmp ns) ≡ is_among cmp m ns
  among-in_order m [] = refl
  among-in_order m (n ∷ ns) = among-put m n (in_order cmp ns) ∙ ap (λ b. is_same cmp n m || b) (among-in_order m ns)

  pub among-distinct : (m : K) (ns : List K) → is_among cmp m (distinct cmp ns) ≡ is_among cmp m ns
  among-distinct m [] = refl
  among-distinct m (n ∷ ns) = elim (cases_Bool (is_among cmp n ns)) [
    | inl a ↦ rw a (among-distinct m ns ∙ elim (cases_key order n m) [
      | inl e ↦ subst (λ k. is_among cmp k ns ≡ true) e a ∙ ap (λ b. b || is_among cmp m ns) (sym (same_key order n m e))
      | inr d ↦ ap (λ b. b || is_among cmp m ns) (sym (other_key order n m d))
    ])
    | inr f ↦ rw (f, among-distinct m ns)
  ]

  pub among-cons_other : (m n : K) (ns : List K) → (n ≡ m → ⊥) → is_among cmp m (n ∷ ns) ≡ is_among cmp m ns
  among-cons_other m n ns d = ap (λ b. b || is_among cmp m ns) (other_key order n m d)

  pub among-cons_same : (m n : K) (ns : List K) → n ≡ m → is_among cmp m (n ∷ ns) ≡ true
  among-cons_same m n ns e = ap (λ b. b || is_among cmp m ns) (same_key order n m e)

  pub among-later : (m n : K) (ns : List K) → is_among cmp m ns ≡ true → is_among cmp m (n ∷ ns) ≡ true
  among-later m n ns a = or_later (is_same cmp n m) a

  -- a key below all is not among them
  pub not_among : (m : K) (ns : List K) → AreAbove cmp m ns → is_among cmp m ns ≡ false
  not_among m [] a = refl
  not_among m (n ∷ ns) a = rw (other_key order n m (λ e. less_apart order m n a.0 (sym e)), not_among m ns a.1)

  -- a key that is there isn't put twice
  pub put-there : (n : K) (ns : List K) → Rises cmp ns → is_among cmp n ns ≡ true → put_key cmp n ns ≡ ns
  put-there n [] r a = absurd (false≢true a)
  put-there n (x ∷ xs) r a = elim (compared (cmp n x)) [
    | Below e ↦ absurd (false≢true (sym (not_among n (x ∷ xs) (e, above_lower n x xs e r.0)) ∙ a))
    | Tied e ↦ rw e (ap (λ y. y ∷ xs) (order.exact n x e))
    | Above e ↦ (
        let d : x ≡ n → ⊥ = less_apart order x n (turned order n x Greater e) in
        rw e (ap (λ ys. x ∷ ys) (put-there n xs r.1 (sym (among-cons_other n x xs d) ∙ a))))
  ]

  pub length-put : (n : K) (ns : List K) → is_among cmp n ns ≡ false → length (put_key cmp n ns) ≡ suc (length ns)
  length-put n [] f = refl
  length-put n (x ∷ xs) f = elim (compared (cmp n x)) [
    | Below e ↦ rw e
    | Tied e ↦ absurd (false≢true (sym f ∙ among-cons_same n x xs (sym (order.exact n x e))))
    | Above e ↦ (
        let d : x ≡ n → ⊥ = less_apart order x n (turned order n x Greater e) in
        rw e (ap suc (length-put n xs (sym (among-cons_other n x xs d) ∙ f))))
  ]

  -- a rising list is known by what is among it
  pub same_members : (ms ns : List K) → Rises cmp ms → Rises cmp ns → ((k : K) → is_among cmp k ms ≡ is_among cmp k ns) → ms ≡ ns
  same_members [] [] r s h = refl
  same_members [] (y ∷ ys) r s h = absurd (false≢true (h y ∙ among-cons_same y y ys refl))
  same_members (x ∷ xs) [] r s h = absurd (false≢true (sym (h x) ∙ among-cons_same x x xs refl))
  same_members (x ∷ xs) (y ∷ ys) r s h = elim (compared (cmp x y)) [
    | Below e ↦ absurd (false≢true (sym (not_among x (y ∷ ys) (e, above_lower x y ys e s.0)) ∙ sym (h x) ∙ among-cons_same x x xs refl))
    | Tied e ↦ (
        let one : x ≡ y = order.exact x y e in
        let tails : xs ≡ ys = same_members xs ys r.1 s.1 (rest one) in
        λ i. one i ∷ tails i)
    | Above e ↦ (
        let l : cmp y x ≡ Less = turned order x y Greater e in
        absurd (false≢true (sym (not_among y (x ∷ xs) (l, above_lower y x xs l r.0)) ∙ h y ∙ among-cons_same y y ys refl)))
  ]
    where
      rest : x ≡ y → (k : K) → is_among cmp k xs ≡ is_among cmp k ys
      rest one k = elim (cases_key order x k) [
        | inl e ↦ (
            let left : is_among cmp k xs ≡ false = subst (λ z. is_among cmp z xs ≡ false) e (not_among x xs r.0) in
            let right : is_among cmp k ys ≡ false = subst (λ z. is_among cmp z ys ≡ false) (sym one ∙ e) (not_among y ys s.0) in
            left ∙ sym right)
        | inr d ↦ sym (among-cons_other k x xs d) ∙ h k ∙ among-cons_other k y ys (λ e. d (one ∙ e))
      ]

  above-filter : (p : K → Bool) (n : K) (ns : List K) → AreAbove cmp n ns → AreAbove cmp n (filter p ns)
  above-filter p n [] a = a
  above-filter p n (x ∷ xs) a = elim (cases_Bool (p x)) [
    | inl t ↦ rw t (a.0, above-filter p n xs a.1)
    | inr f ↦ rw f (above-filter p n xs a.1)
  ]

  pub rises-filter : (p : K → Bool) (ns : List K) → Rises cmp ns → Rises cmp (filter p ns)
  rises-filter p [] r = r
  rises-filter p (x ∷ xs) r = elim (cases_Bool (p x)) [
    | inl t ↦ rw t (above-filter p x xs r.0, rises-filter p xs r.1)
    | inr f ↦ rw f (rises-filter p xs r.1)
  ]

  pub among-filter : (p : K → Bool) (m : K) (ns : List K) → is_among cmp m (filter p ns) ≡ (p m && is_among cmp m ns)
  among-filter p m [] = never (p m)
    where
      never : (a : Bool) → false ≡ (a && false)
      never true = refl
      never false = refl
  among-filter p m (x ∷ xs) = elim (cases_Bool (p x)) [
    | inl t ↦ rw (t, among-filter p m xs) (elim (cases_key order x m) [
      | inl e ↦ rw (same_key order x m e) (both_true (p m) (ap p (sym e) ∙ t))
      | inr d ↦ rw (other_key order x m d)
    ])
    | inr f ↦ rw (f, among-filter p m xs) (elim (cases_key order x m) [
      | inl e ↦ rw (same_key order x m e) (both_false (p m) (is_among cmp m xs) (ap p (sym e) ∙ f))
      | inr d ↦ rw (other_key order x m d)
    ])
  ]
    where
      both_true : (a : Bool) → a ≡ true → true ≡ (a && true)
      both_true a e = sym (ap (λ b. b && true) e)

      both_false : (a b : Bool) → a ≡ false → (a && b) ≡ (a && true)
      both_false a b e = ap (λ c. c && b) e ∙ ap (λ c. c && true) (sym e)

  -- of different keys there are no fewer than of their distinct ones
  pub length-distinct : (ns : List K) → length (distinct cmp ns) ≤ length ns
  length-distinct [] = omega arith
  length-distinct (n ∷ ns) = elim (cases_Bool (is_among cmp n ns)) [
    | inl a ↦ rw a (omega (arith, length-distinct ns))
    | inr f ↦ rw f (omega (arith, length-distinct ns))
  ]
