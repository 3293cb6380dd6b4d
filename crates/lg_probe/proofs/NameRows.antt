-- Names in rising order: which are among them, and how many there are.
use Rattle.std.proofs.Common.{◌≡◌, ◌≢◌, ℕ, ◌≤◌, Bool, true, false, not, ◌||◌, List, [], ◌∷◌, ◌++◌, length, map, Some, None, inl, inr, refl, sym, ◌∙◌, ap, subst, arith}
use Rattle.std.specs.Prelude.{filter}
use Rattle.std.proofs.lemmas.Bool.{cases_Bool}
use Rattle.std.specs.declared.cmp.Ordering.TheVariants.{Greater}
use Rattle.lg_rules.specs.Meaning.Rows.{name_cmp, is_same, is_among, row_at, Rises}
use Rattle.lg_rules.proofs.Cases.{Below, Tied, Above, compared}
use Rattle.lg_rules.proofs.KeyOrder.{names_order, turned, less_apart}
use Rattle.lg_rules.proofs.Rises.{above_lower, not_among, among-cons_same, among-cons_other, among-later}
use Rattle.lg_rules.proofs.RowsFound.{few_among}

pub map-itself : (ns : List (List ℕ)) → map (λ n. n) ns ≡ ns
map-itself [] = refl
map-itself (n ∷ ns) = ap (λ ms. n ∷ ms) (map-itself ns)

-- names in rising order are rows in the order of their names
pub names_rise : (ns : List (List ℕ)) → Rises name_cmp ns → Rises name_cmp (map (λ n. n) ns)
names_rise ns r = subst (Rises name_cmp) (sym (map-itself ns)) r

-- a name whose row is found is among the names, and one whose row isn't, is not
pub among_found : (n x : List ℕ) (ns : List (List ℕ)) → row_at name_cmp (λ m. m) n ns ≡ Some x → is_among name_cmp n ns ≡ true
among_found n x [] e = absurd cc
among_found n x (m ∷ ms) e = elim (compared (name_cmp n m)) [
  | Below l ↦ (let e' : None ≡ Some x = rw l at e in absurd cc)
  | Tied t ↦ among-cons_same names_order n m ms (sym (names_order.exact n m t))
  | Above a ↦ (
      let d : m ≢ n = less_apart names_order m n (turned names_order n m Greater a) in
      among-cons_other names_order n m ms d ∙ among_found n x ms (rw a at e))
]

pub among_missing : (n : List ℕ) (ns : List (List ℕ)) → Rises name_cmp ns → row_at name_cmp (λ m. m) n ns ≡ None → is_among name_cmp n ns ≡ false
among_missing n [] r e = refl
among_missing n (m ∷ ms) r e = elim (compared (name_cmp n m)) [
  | Below l ↦ not_among names_order n (m ∷ ms) (l, above_lower names_order n m ms l r.0)
  | Tied t ↦ (let e' : Some m ≡ None = rw t at e in absurd cc)
  | Above a ↦ (
      let d : m ≢ n = less_apart names_order m n (turned names_order n m Greater a) in
      among-cons_other names_order n m ms d ∙ among_missing n ms r.1 (rw a at e))
]

-- names that are all among some
pub among_all : (xs ys : List (List ℕ)) → ((k : List ℕ) → is_among name_cmp k xs ≡ true → is_among name_cmp k ys ≡ true) → filter (λ x. is_among name_cmp x ys) xs ≡ xs
among_all [] ys h = refl
among_all (x ∷ xs) ys h =
    rw (h x (among-cons_same names_order x x xs refl))
    (ap (λ zs. x ∷ zs) (among_all xs ys (λ k a. h k (among-later names_order k x xs a))))

-- Different names that are all among some aren't more than those.
pub names_few : (xs ys : List (List ℕ)) → Rises name_cmp xs → ((k : List ℕ) → is_among name_cmp k xs ≡ true → is_among name_cmp k ys ≡ true) → length xs ≤ length ys
names_few xs ys r h =
    let all = among_all xs ys h in
    let few : length (filter (λ x. is_among name_cmp x ys) xs) ≤ length ys = few_among names_order (λ m. m) ys xs (names_rise xs r) in
    omega (arith, few, ap length all)

-- what is among two lists together
pub among-append : (k : List ℕ) (xs ys : List (List ℕ)) → is_among name_cmp k (xs ++ ys) ≡ (is_among name_cmp k xs || is_among name_cmp k ys)
among-append k [] ys = refl
among-append k (x ∷ xs) ys = ap (λ b. is_same name_cmp x k || b) (among-append k xs ys) ∙ assoc (is_same name_cmp x k) (is_among name_cmp k xs) (is_among name_cmp k ys)
  where
    assoc : (p q r : Bool) → (p || (q || r)) ≡ ((p || q) || r)
    assoc true q r = refl
    assoc false q r = refl

-- those that pass neither of two tests
pub neither : {A : Type 0} (p q : A → Bool) (xs : List A) → filter (λ x. not (p x || q x)) xs ≡ filter (λ x. not (p x)) (filter (λ x. not (q x)) xs)
neither p q [] = refl
neither p q (x ∷ xs) = elim (cases_Bool (q x)) [
  | inl t ↦ elim (cases_Bool (p x)) [
    | inl u ↦ rw (t, u) (neither p q xs)
    | inr v ↦ rw (t, v) (neither p q xs)
  ]
  | inr f ↦ elim (cases_Bool (p x)) [
    | inl u ↦ rw (f, u) (neither p q xs)
    | inr v ↦ rw (f, v) (ap (λ ys. x ∷ ys) (neither p q xs))
  ]
]
