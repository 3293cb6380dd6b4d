-- The numbers of a set. Callers have these laws.
use Rattle.std.proofs.Common.{
  ◌≡◌,
  ℕ,
  zero,
  suc,
  ◌<◌,
  ◌≤◌,
  Bool,
  true,
  false,
  List,
  [],
  ◌∷◌,
  length,
  get_or,
  take,
  Option,
  Some,
  None,
  refl,
  sym,
  ap,
  ◌∙◌,
  subst,
  arith,
}
use Rattle.std.specs.List.{slice_get}
use Rattle.std.specs.Option.{option_map}
use Rattle.std.proofs.lemmas.Option.{slice_get-get_or, slice_get_past, same_Some}
use Rattle.lg_bit_set.specs.Meaning.Flags.{numbers_from, numbers_of, nth_number, count_set}
use Rattle.lg_bit_set.proofs.Numbers.{nth_number-next, length-numbers_from, count_set-set, count_set-clear}

-- A number is in a set, and so many smaller ones are.
pub record IsNthNumber (flags : List Bool) (index number : ℕ) : Type 0 where
  pub within : number < length flags
  pub set : get_or flags number false ≡ true
  pub below : count_set (take number flags) ≡ index

onto : (earlier : Option ℕ) (number : ℕ) → option_map suc earlier ≡ Some number
    → (n : ℕ) × (earlier ≡ Some n) × (suc n ≡ number)
onto None number e = cc
onto (Some n) number e = (n, refl, same_Some (suc n) number e)

-- one flag more in front
one_more : (flag : Bool) (flags : List Bool) (index next number : ℕ)
    → count_set (flag ∷ take number flags) ≡ next → IsNthNumber flags index number
    → IsNthNumber (flag ∷ flags) next (suc number)
one_more flag flags index next number e is = record {
  within = omega (arith, is.within);
  set = is.set;
  below = e;
}

later : (flag : Bool) (flags : List Bool) (index next number : ℕ)
    → ((n : ℕ) → nth_number flags index ≡ Some n → IsNthNumber flags index n)
    → ((n : ℕ) → count_set (take n flags) ≡ index → count_set (flag ∷ take n flags) ≡ next)
    → slice_get (numbers_from 1 flags) index ≡ Some number → IsNthNumber (flag ∷ flags) next number
later flag flags index next number rest counted e =
    let at = onto (nth_number flags index) number (sym (nth_number-next 0 flags index) ∙ e) in
    let is = rest at.0 at.1 in
    subst (λ n. IsNthNumber (flag ∷ flags) next n) at.2 (one_more flag flags index next at.0 (counted at.0 is.below) is)

-- the number at an index is in the set, and as many smaller ones are as the index says
pub IsNthNumber-from : (flags : List Bool) (index number : ℕ) → nth_number flags index ≡ Some number
    → IsNthNumber flags index number
IsNthNumber-from [] index number e = cc
IsNthNumber-from (true ∷ flags) zero number e =
    subst (λ n. IsNthNumber (true ∷ flags) 0 n) (same_Some 0 number e)
    (record { within = omega arith; set = refl; below = refl })
IsNthNumber-from (true ∷ flags) (suc index) number e =
    later true flags index (suc index) number (IsNthNumber-from flags index)
    (λ n c. omega (arith, count_set-set (take n flags), c)) e
IsNthNumber-from (false ∷ flags) index number e =
    later false flags index index number (IsNthNumber-from flags index)
    (λ n c. omega (arith, count_set-clear (take n flags), c)) e

-- each number in the set is at the index that counts the smaller ones
pub nth_number-count_set : (flags : List Bool) (number : ℕ) → number < length flags → get_or flags number false ≡ true
    → nth_number flags (count_set (take number flags)) ≡ Some number
nth_number-count_set [] number within set = absurd (omega arith)
nth_number-count_set (true ∷ flags) zero within set = refl
nth_number-count_set (false ∷ flags) zero within set = cc
nth_number-count_set (true ∷ flags) (suc number) within set =
    let index : count_set (true ∷ take number flags) ≡ suc (count_set (take number flags)) =
    omega (arith, count_set-set (take number flags)) in
    ap (λ n. nth_number (true ∷ flags) n) index
    ∙ nth_number-next 0 flags (count_set (take number flags))
    ∙ ap (option_map suc) (nth_number-count_set flags number (omega arith) set)
nth_number-count_set (false ∷ flags) (suc number) within set =
    let index : count_set (false ∷ take number flags) ≡ count_set (take number flags) =
    omega (arith, count_set-clear (take number flags)) in
    ap (λ n. nth_number (false ∷ flags) n) index
    ∙ nth_number-next 0 flags (count_set (take number flags))
    ∙ ap (option_map suc) (nth_number-count_set flags number (omega arith) set)

-- there is a number at each index below the set's length, and at no other one
pub nth_number-within : (flags : List Bool) (index : ℕ) → index < count_set flags
    → nth_number flags index ≡ Some (get_or (numbers_of flags) index 0)
nth_number-within flags index within =
    slice_get-get_or (numbers_of flags) index 0 (omega (arith, length-numbers_from 0 flags))

pub nth_number-past : (flags : List Bool) (index : ℕ) → count_set flags ≤ index → nth_number flags index ≡ None
nth_number-past flags index past =
    slice_get_past (numbers_of flags) index (omega (arith, length-numbers_from 0 flags))

-- a number is at one index alone
pub nth_number-distinct : (flags : List Bool) (i j number : ℕ) → nth_number flags i ≡ Some number
    → nth_number flags j ≡ Some number → i ≡ j
nth_number-distinct flags i j number e f =
    sym (IsNthNumber-from flags i number e).below ∙ (IsNthNumber-from flags j number f).below
