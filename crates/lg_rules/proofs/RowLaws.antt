-- The rows that a function gives for keys in rising order.
use Rattle.std.proofs.Common.{◌≡◌, ◌≢◌, ℕ, suc, ◌<◌, ◌≤◌, true, false, cond, List, [], ◌∷◌, length, map, Option, Some, None, inl, inr, refl, sym, ◌∙◌, ap, subst, arith}
use Rattle.std.specs.Prelude.{filter_map}
use Rattle.std.specs.List.{cons_option}
use Rattle.std.specs.declared.cmp.Ordering.{Ordering}
use Rattle.std.specs.declared.cmp.Ordering.TheVariants.{Less, Equal, Greater}
use Rattle.std.proofs.lemmas.Bool.{cases_Bool, false≢true}
use Rattle.lg_rules.specs.Meaning.Rows.{is_same, is_among, put_row, put_key, row_at, without_row, without_key, AreAbove, Rises}
use Rattle.lg_rules.proofs.Cases.{Missing, Holding, held, Below, Tied, Above, compared}
use Rattle.lg_rules.proofs.KeyOrder.{IsKeyOrder, turned, same_key, other_key, cases_key, less_apart}
use Rattle.lg_rules.proofs.Rises.{above_lower, not_among, put-there, length-put, among-cons_other, among-cons_same, among-later}

-- a function gives each key a row that has it, or none
abbrev pub Keyed : {K R : Type 0} → (R → K) → (K → Option R) → Type 0
Keyed {K} {R} key f = (n : K) (r : R) → f n ≡ Some r → key r ≡ n

-- two functions give the same but for one key
abbrev pub AgreeBut : {K R : Type 0} → K → (K → Option R) → (K → Option R) → Type 0
AgreeBut {K} m f g = (n : K) → n ≢ m → g n ≡ f n

pub rows_equal : {K R : Type 0} (f g : K → Option R) (ns : List K) → ((n : K) → g n ≡ f n) → filter_map g ns ≡ filter_map f ns
rows_equal f g [] h = refl
rows_equal f g (n ∷ ns) h = rw (h n, rows_equal f g ns h)

pub length_rows-le : {K R : Type 0} (f : K → Option R) (ns : List K) → length (filter_map f ns) ≤ length ns
length_rows-le f [] = omega arith
length_rows-le f (n ∷ ns) = elim (held (f n)) [
  | Missing e ↦ rw e (omega (arith, length_rows-le f ns))
  | Holding r e ↦ rw e (omega (arith, length_rows-le f ns))
]

module _ {K : Type 0} {cmp : K → K → Ordering} (order : IsKeyOrder cmp) where
  pub rows_same : {R : Type 0} (f g : K → Option R) (m : K) (ns : List K) → AgreeBut m f g → is_among cmp m ns ≡ false → filter_map g ns ≡ filter_map f ns
  rows_same f g m [] h a = refl
  rows_same f g m (n ∷ ns) h a = elim (cases_key order n m) [
    | inl e ↦ absurd (false≢true (sym a ∙ among-cons_same order m n ns e))
    | inr d ↦ rw (h n d, rows_same f g m ns h (sym (among-cons_other order m n ns d) ∙ a))
  ]

  rows_above : {R : Type 0} (f g : K → Option R) (m : K) (ns : List K) → AgreeBut m f g → AreAbove cmp m ns → filter_map g ns ≡ filter_map f ns
  rows_above f g m ns h a = rows_same f g m ns h (not_among order m ns a)

  -- a key without a row changes nothing
  pub rows-skip : {R : Type 0} (f : K → Option R) (m : K) (ns : List K) → f m ≡ None → filter_map f (put_key cmp m ns) ≡ filter_map f ns
  rows-skip f m [] e = rw e
  rows-skip f m (n ∷ ns) e = elim (compared (cmp m n)) [
    | Below l ↦ rw (l, e)
    | Tied t ↦ (let none : f n ≡ None = ap f (sym (order.exact m n t)) ∙ e in rw (t, e, none))
    | Above g ↦ rw g (ap (cons_option (f n)) (rows-skip f m ns e))
  ]

  -- and neither does one that is left out
  pub rows-less : {R : Type 0} (f : K → Option R) (m : K) (ns : List K) → f m ≡ None → filter_map f (without_key cmp m ns) ≡ filter_map f ns
  rows-less f m [] e = refl
  rows-less f m (n ∷ ns) e = elim (cases_key order n m) [
    | inl s ↦ (let gap : f n ≡ None = ap f s ∙ e in rw (same_key order n m s, gap) (rows-less f m ns e))
    | inr d ↦ elim (held (f n)) [
      | Missing gap ↦ rw (other_key order n m d, gap) (rows-less f m ns e)
      | Holding r is ↦ rw (other_key order n m d, is) (ap (λ rows. r ∷ rows) (rows-less f m ns e))
    ]
  ]

  -- as many rows as keys, where each has one
  pub length-rows : {R : Type 0} (f : K → Option R) (ns : List K) → ((n : K) → is_among cmp n ns ≡ true → f n ≢ None) → length (filter_map f ns) ≡ length ns
  length-rows f [] h = refl
  length-rows f (n ∷ ns) h = elim (held (f n)) [
    | Missing e ↦ absurd (h n (among-cons_same order n n ns refl) e)
    | Holding r e ↦ rw e (ap suc (length-rows f ns (λ k a. h k (among-later order k n ns a))))
  ]

  -- fewer, where one has none
  length_rows-less : {R : Type 0} (f : K → Option R) (m : K) (ns : List K) → is_among cmp m ns ≡ true → f m ≡ None → length (filter_map f ns) < length ns
  length_rows-less f m [] a e = absurd (false≢true a)
  length_rows-less f m (n ∷ ns) a e = elim (cases_key order n m) [
    | inl s ↦ (let none : f n ≡ None = ap f s ∙ e in rw none (omega (arith, length_rows-le f ns)))
    | inr d ↦ (
        let less = length_rows-less f m ns (sym (among-cons_other order m n ns d) ∙ a) e in
        elim (held (f n)) [
          | Missing gap ↦ rw gap (omega (arith, less))
          | Holding r is ↦ rw is (omega (arith, less))
        ])
  ]

  module _ {R : Type 0} (key : R → K) where
    above_rows : (f : K → Option R) (m : K) (ns : List K) → Keyed key f → AreAbove cmp m ns → AreAbove cmp m (map key (filter_map f ns))
    above_rows f m [] k a = tt
    above_rows f m (n ∷ ns) k a = elim (held (f n)) [
      | Missing e ↦ rw e (above_rows f m ns k a.1)
      | Holding r e ↦ (let named : key r ≡ n = k n r e in rw e (ap (cmp m) named ∙ a.0, above_rows f m ns k a.1))
    ]

    -- the rows rise as their keys do
    pub rises-rows : (f : K → Option R) (ns : List K) → Keyed key f → Rises cmp ns → Rises cmp (map key (filter_map f ns))
    rises-rows f [] k r = tt
    rises-rows f (n ∷ ns) k r = elim (held (f n)) [
      | Missing e ↦ rw e (rises-rows f ns k r.1)
      | Holding x e ↦ (
          let named : n ≡ key x = sym (k n x e) in
          rw e (subst (λ y. AreAbove cmp y (map key (filter_map f ns))) named (above_rows f n ns k r.0), rises-rows f ns k r.1))
    ]

    put_first : (r : R) (xs : List R) → AreAbove cmp (key r) (map key xs) → put_row cmp key r xs ≡ r ∷ xs
    put_first r [] a = refl
    put_first r (x ∷ xs) a = rw a.0

    at_first : (m : K) (xs : List R) → AreAbove cmp m (map key xs) → row_at cmp key m xs ≡ None
    at_first m [] a = refl
    at_first m (x ∷ xs) a = rw a.0

    -- one row put among the rows of the other keys
    pub rows-put : (f g : K → Option R) (r : R) (ns : List K) → Rises cmp ns → Keyed key f → g (key r) ≡ Some r → AgreeBut (key r) f g
        → put_row cmp key r (filter_map f ns) ≡ filter_map g (put_key cmp (key r) ns)
    rows-put f g r [] rise k here there = rw here
    rows-put f g r (n ∷ ns) rise k here there = elim (compared (cmp (key r) n)) [
      | Below l ↦ (
          let up : AreAbove cmp (key r) (n ∷ ns) = (l, above_lower order (key r) n ns l rise.0) in
          let left = put_first r (filter_map f (n ∷ ns)) (above_rows f (key r) (n ∷ ns) k up) in
          let right : filter_map g (put_key cmp (key r) (n ∷ ns)) ≡ r ∷ filter_map g (n ∷ ns) = rw (l, here) in
          left ∙ ap (λ xs. r ∷ xs) (sym (rows_above f g (key r) (n ∷ ns) there up)) ∙ sym right)
      | Tied t ↦ (
          let one : key r ≡ n = order.exact (key r) n t in
          let up : AreAbove cmp (key r) ns = subst (λ y. AreAbove cmp y ns) (sym one) rise.0 in
          let right : filter_map g (put_key cmp (key r) (n ∷ ns)) ≡ r ∷ filter_map g ns = rw (t, here) in
          let rest : r ∷ filter_map f ns ≡ filter_map g (put_key cmp (key r) (n ∷ ns)) = ap (λ xs. r ∷ xs) (sym (rows_above f g (key r) ns there up)) ∙ sym right in
          elim (held (f n)) [
            | Missing e ↦ rw e (put_first r (filter_map f ns) (above_rows f (key r) ns k up)) ∙ rest
            | Holding x e ↦ (
                let level : cmp (key r) (key x) ≡ Equal = ap (cmp (key r)) (k n x e) ∙ t in
                let left : put_row cmp key r (filter_map f (n ∷ ns)) ≡ r ∷ filter_map f ns = rw (e, level) in
                left ∙ rest)
          ])
      | Above a ↦ (
          let d : n ≢ key r = less_apart order n (key r) (turned order (key r) n Greater a) in
          let right : filter_map g (put_key cmp (key r) (n ∷ ns)) ≡ cons_option (f n) (filter_map g (put_key cmp (key r) ns)) = rw (a, there n d) in
          let rest = rows-put f g r ns rise.1 k here there in
          elim (held (f n)) [
            | Missing e ↦ (
                let left : put_row cmp key r (filter_map f (n ∷ ns)) ≡ put_row cmp key r (filter_map f ns) = rw e in
                left ∙ rest ∙ sym (right ∙ ap (λ o. cons_option o (filter_map g (put_key cmp (key r) ns))) e))
            | Holding x e ↦ (
                let level : cmp (key r) (key x) ≡ Greater = ap (cmp (key r)) (k n x e) ∙ a in
                let left : put_row cmp key r (filter_map f (n ∷ ns)) ≡ x ∷ put_row cmp key r (filter_map f ns) = rw (e, level) in
                left ∙ ap (λ xs. x ∷ xs) rest ∙ sym (right ∙ ap (λ o. cons_option o (filter_map g (put_key cmp (key r) ns))) e))
          ])
    ]

    -- the row of a key
    pub row_at-rows : (f : K → Option R) (m : K) (ns : List K) → Rises cmp ns → Keyed key f → row_at cmp key m (filter_map f ns) ≡ cond (is_among cmp m ns) (f m) None
    row_at-rows f m [] rise k = refl
    row_at-rows f m (n ∷ ns) rise k = elim (compared (cmp m n)) [
      | Below l ↦ (
          let up : AreAbove cmp m (n ∷ ns) = (l, above_lower order m n ns l rise.0) in
          at_first m (filter_map f (n ∷ ns)) (above_rows f m (n ∷ ns) k up) ∙ ap (λ b. cond b (f m) None) (sym (not_among order m (n ∷ ns) up)))
      | Tied t ↦ (
          let one : m ≡ n = order.exact m n t in
          let right : cond (is_among cmp m (n ∷ ns)) (f m) None ≡ f n = ap (λ b. cond b (f m) None) (among-cons_same order m n ns (sym one)) ∙ ap f one in
          elim (held (f n)) [
            | Missing e ↦ rw e (at_first m (filter_map f ns) (above_rows f m ns k (subst (λ y. AreAbove cmp y ns) (sym one) rise.0))) ∙ sym (right ∙ e)
            | Holding x e ↦ (
                let level : cmp m (key x) ≡ Equal = ap (cmp m) (k n x e) ∙ t in
                let left : row_at cmp key m (filter_map f (n ∷ ns)) ≡ Some x = rw (e, level) in
                left ∙ sym (right ∙ e))
          ])
      | Above a ↦ (
          let d : n ≢ m = less_apart order n m (turned order m n Greater a) in
          let rest : row_at cmp key m (filter_map f ns) ≡ cond (is_among cmp m (n ∷ ns)) (f m) None = row_at-rows f m ns rise.1 k ∙ ap (λ b. cond b (f m) None) (sym (among-cons_other order m n ns d)) in
          elim (held (f n)) [
            | Missing e ↦ rw e rest
            | Holding x e ↦ (
                let level : cmp m (key x) ≡ Greater = ap (cmp m) (k n x e) ∙ a in
                let left : row_at cmp key m (filter_map f (n ∷ ns)) ≡ row_at cmp key m (filter_map f ns) = rw (e, level) in
                left ∙ rest)
          ])
    ]

    -- the rows without that of one key
    pub rows-without : (f g : K → Option R) (m : K) (ns : List K) → Keyed key f → g m ≡ None → AgreeBut m f g → without_row cmp key m (filter_map f ns) ≡ filter_map g ns
    rows-without f g m [] k here there = refl
    rows-without f g m (n ∷ ns) k here there =
        let rest = rows-without f g m ns k here there in
        elim (cases_key order n m) [
          | inl s ↦ (
              let none : g n ≡ None = ap g s ∙ here in
              elim (held (f n)) [
                | Missing e ↦ rw (e, none) rest
                | Holding x e ↦ (let same : is_same cmp (key x) m ≡ true = same_key order (key x) m (k n x e ∙ s) in rw (e, none, same) rest)
              ])
          | inr d ↦ elim (held (f n)) [
            | Missing e ↦ (let none : g n ≡ None = there n d ∙ e in rw (e, none) rest)
            | Holding x e ↦ (
                let some : g n ≡ Some x = there n d ∙ e in
                let other : is_same cmp (key x) m ≡ false = other_key order (key x) m (λ s. d (sym (k n x e) ∙ s)) in
                rw (e, some, other) (ap (λ xs. x ∷ xs) rest))
          ]
        ]

    -- Where a key has no row, and there are at most k keys with it, the rows leave room for one more.
    pub rows_room : (f : K → Option R) (m : K) (k : ℕ) (ns : List K) → Rises cmp ns → Keyed key f → length (put_key cmp m ns) ≤ k → row_at cmp key m (filter_map f ns) ≡ None → length (filter_map f ns) < k
    rows_room f m k ns rise keyed few e = elim (cases_Bool (is_among cmp m ns)) [
      | inl a ↦ (
          let gap : f m ≡ None = sym (row_at-rows f m ns rise keyed ∙ ap (λ b. cond b (f m) None) a) ∙ e in
          omega (arith, length_rows-less f m ns a gap, ap length (put-there order m ns rise a), few))
      | inr n ↦ omega (arith, length-put order m ns n, length_rows-le f ns, few)
    ]

    -- a row that is put is found, and no other is touched
    pub row_at-put : (m : K) (r : R) (xs : List R) → row_at cmp key m (put_row cmp key r xs) ≡ cond (is_same cmp (key r) m) (Some r) (row_at cmp key m xs)
    row_at-put m r [] = elim (compared (cmp m (key r))) [
      | Below l ↦ rw (l, turned order m (key r) Less l)
      | Tied t ↦ rw (t, turned order m (key r) Equal t)
      | Above a ↦ rw (a, turned order m (key r) Greater a)
    ]
    row_at-put m r (x ∷ xs) = elim (compared (cmp (key r) (key x))) [
      | Below l ↦ elim (compared (cmp m (key r))) [
        | Below m-r ↦ (let m-x : cmp m (key x) ≡ Less = order.total.trans m (key r) (key x) m-r l in rw (l, m-r, turned order m (key r) Less m-r, m-x))
        | Tied t ↦ rw (l, t, turned order m (key r) Equal t)
        | Above a ↦ rw (l, a, turned order m (key r) Greater a)
      ]
      | Tied t ↦ (
          let one : key r ≡ key x = order.exact (key r) (key x) t in
          let before : cmp m (key x) ≡ cmp m (key r) = ap (cmp m) (sym one) in
          elim (compared (cmp m (key r))) [
            | Below e ↦ rw (t, before, e, turned order m (key r) Less e)
            | Tied e ↦ rw (t, before, e, turned order m (key r) Equal e)
            | Above e ↦ rw (t, before, e, turned order m (key r) Greater e)
          ])
      | Above a ↦ (
          let x-r : cmp (key x) (key r) ≡ Less = turned order (key r) (key x) Greater a in
          elim (compared (cmp m (key x))) [
            | Below l ↦ (let m-r : cmp m (key r) ≡ Less = order.total.trans m (key x) (key r) l x-r in rw (a, l, turned order m (key r) Less m-r))
            | Tied t ↦ (let m-r : cmp m (key r) ≡ Less = ap (λ k. cmp k (key r)) (order.exact m (key x) t) ∙ x-r in rw (a, t, turned order m (key r) Less m-r))
            | Above e ↦ rw (a, e) (row_at-put m r xs)
          ])
    ]

    pub length_put_row-le : (r : R) (rows : List R) → length (put_row cmp key r rows) ≤ suc (length rows)
    length_put_row-le r [] = omega arith
    length_put_row-le r (x ∷ xs) = elim (compared (cmp (key r) (key x))) [
      | Below e ↦ rw e (omega arith)
      | Tied e ↦ rw e (omega arith)
      | Above e ↦ rw e (omega (arith, length_put_row-le r xs))
    ]
