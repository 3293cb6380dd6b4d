-- Total orders in which only equal keys tie.
use Rattle.std.proofs.Common.{◌≡◌, ◌≢◌, ℕ, true, false, List, ◌⊎◌, inl, inr, sym, ◌∙◌, ap}
use Rattle.std.proofs.lemmas.Bool.{cases_Bool, false≢true}
use Rattle.std.specs.declared.cmp.Ordering.{Ordering}
use Rattle.std.specs.declared.cmp.Ordering.TheVariants.{Less, Equal}
use Rattle.std.specs.Ordering.{ordering_reverse, nat_cmp, is_eq}
use Rattle.std.specs.Cmp.{IsTotalOrder, Equal-is, tied_itself, nat_cmp_total}
use Rattle.std.specs.Cmp.Lexicographic.{nat_list_cmp_total, pointwise}
use Rattle.std.specs.Prelude.{nat_eq}
use Rattle.std.proofs.lemmas.Slice.Eq.{bytes_eq-Decides}
use Rattle.std.specs.FinMap.{nat_cmp-IsAntisymmetric, slice_cmp-IsAntisymmetric}
use Rattle.lg_rules.specs.Meaning.Rows.{name_cmp, is_same}

pub record IsKeyOrder {K : Type 0} (cmp : K → K → Ordering) : Type 0 where
  pub total : IsTotalOrder cmp
  pub exact : (m n : K) → cmp m n ≡ Equal → m ≡ n

-- names by their bytes
pub names_order : IsKeyOrder name_cmp
names_order = record { total = nat_list_cmp_total; exact = slice_cmp-IsAntisymmetric nat_cmp-IsAntisymmetric }

-- numbers
pub numbers_order : IsKeyOrder nat_cmp
numbers_order = record { total = nat_cmp_total; exact = nat_cmp-IsAntisymmetric }

module _ {K : Type 0} {cmp : K → K → Ordering} (order : IsKeyOrder cmp) where
  -- the other way round
  pub turned : (m n : K) (o : Ordering) → cmp m n ≡ o → cmp n m ≡ ordering_reverse o
  turned m n o e = order.total.antisymm n m ∙ ap ordering_reverse e

  pub tied : (m n : K) → m ≡ n → cmp m n ≡ Equal
  tied m n e = ap (cmp m) (sym e) ∙ tied_itself order.total m

  pub same_key : (m n : K) → m ≡ n → is_same cmp m n ≡ true
  same_key m n e = ap is_eq (tied m n e)

  pub key_is : (m n : K) → is_same cmp m n ≡ true → m ≡ n
  key_is m n e = order.exact m n ((Equal-is (cmp m n)).0 e)

  pub other_key : (m n : K) → m ≢ n → is_same cmp m n ≡ false
  other_key m n d = elim (cases_Bool (is_same cmp m n)) [ inl e ↦ absurd (d (key_is m n e)) | inr f ↦ f ]

  pub apart : (m n : K) → is_same cmp m n ≡ false → m ≢ n
  apart m n f e = false≢true (sym f ∙ same_key m n e)

  pub cases_key : (m n : K) → (m ≡ n) ⊎ (m ≢ n)
  cases_key m n = elim (cases_Bool (is_same cmp m n)) [ inl e ↦ inl (key_is m n e) | inr f ↦ inr (apart m n f) ]

  pub same_back : (m n : K) → is_same cmp m n ≡ is_same cmp n m
  same_back m n = elim (cases_key m n) [
    | inl e ↦ same_key m n e ∙ sym (same_key n m (sym e))
    | inr d ↦ other_key m n d ∙ sym (other_key n m (λ e. d (sym e)))
  ]

  -- a lesser key is another
  pub less_apart : (m n : K) → cmp m n ≡ Less → m ≢ n
  less_apart m n l e = let p : Less ≡ Equal = sym l ∙ tied m n e in absurd cc

-- what `==` of names says
pub names_equal : (m n : List ℕ) → pointwise nat_eq m n ≡ true → m ≡ n
names_equal m n e = (bytes_eq-Decides m n).0 e

pub names_differ : (m n : List ℕ) → pointwise nat_eq m n ≡ false → m ≢ n
names_differ m n f e = false≢true (sym f ∙ (bytes_eq-Decides m n).1 e)

pub names_eq : (m n : List ℕ) → pointwise nat_eq m n ≡ is_same name_cmp m n
names_eq m n = elim (cases_key names_order m n) [
  | inl e ↦ (bytes_eq-Decides m n).1 e ∙ sym (same_key names_order m n e)
  | inr d ↦ elim (cases_Bool (pointwise nat_eq m n)) [
    | inl t ↦ absurd (d (names_equal m n t))
    | inr f ↦ f ∙ sym (other_key names_order m n d)
  ]
]
