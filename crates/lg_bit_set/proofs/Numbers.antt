-- The numbers whose flags are set.
use Rattle.std.proofs.Common.{
  ◌≡◌,
  ℕ,
  zero,
  suc,
  ◌+◌,
  ◌-◌,
  ◌<◌,
  ◌≤◌,
  Bool,
  true,
  false,
  List,
  [],
  ◌∷◌,
  ◌++◌,
  length,
  map,
  refl,
  ap,
  ◌∙◌,
  arith,
  Some,
}
use Rattle.std.specs.List.{slice_get}
use Rattle.std.specs.Option.{option_map}
use Rattle.std.proofs.Math.Numerals.{add-one}
use Rattle.std.proofs.lemmas.List.Sums.{sum_by-append}
use Rattle.std.proofs.lemmas.Option.{slice_get-map}
use Rattle.lg_bit_set.specs.Meaning.Flags.{numbers_from, numbers_of, nth_number, count_set}

pub numbers_from-append : (first : ℕ) (flags others : List Bool)
    → numbers_from first (flags ++ others) ≡ numbers_from first flags ++ numbers_from (first + length flags) others
numbers_from-append first [] others = ap (λ n. numbers_from n others) (omega arith)
numbers_from-append first (true ∷ flags) others =
    ap (λ l. first ∷ l)
    (numbers_from-append (first + 1) flags others
    ∙ ap (λ n. numbers_from (first + 1) flags ++ numbers_from n others) (omega arith))
numbers_from-append first (false ∷ flags) others =
    numbers_from-append (first + 1) flags others
    ∙ ap (λ n. numbers_from (first + 1) flags ++ numbers_from n others) (omega arith)

pub numbers_from-add : (more first : ℕ) (flags : List Bool)
    → numbers_from (more + first) flags ≡ map (λ n. more + n) (numbers_from first flags)
numbers_from-add more first [] = refl
numbers_from-add more first (true ∷ flags) =
    ap (λ l. (more + first) ∷ l)
    (ap (λ n. numbers_from n flags) (omega arith) ∙ numbers_from-add more (first + 1) flags)
numbers_from-add more first (false ∷ flags) =
    ap (λ n. numbers_from n flags) (omega arith) ∙ numbers_from-add more (first + 1) flags

pub count_set-append : (flags others : List Bool) → count_set (flags ++ others) ≡ count_set flags + count_set others
count_set-append flags others = sum_by-append _ flags others

pub count_set-set : (flags : List Bool) → count_set (true ∷ flags) ≡ 1 + count_set flags
count_set-set flags = count_set-append (true ∷ []) flags

pub count_set-clear : (flags : List Bool) → count_set (false ∷ flags) ≡ 0 + count_set flags
count_set-clear flags = count_set-append (false ∷ []) flags

pub length-numbers_from : (first : ℕ) (flags : List Bool) → length (numbers_from first flags) ≡ count_set flags
length-numbers_from first [] = refl
length-numbers_from first (true ∷ flags) = omega (arith, length-numbers_from (first + 1) flags, count_set-set flags)
length-numbers_from first (false ∷ flags) = omega (arith, length-numbers_from (first + 1) flags, count_set-clear flags)

slice_get-append_left : {X : Type 0} (xs ys : List X) (i : ℕ) → i < length xs → slice_get (xs ++ ys) i ≡ slice_get xs i
slice_get-append_left [] ys i within = absurd (omega arith)
slice_get-append_left (x ∷ xs) ys zero within = refl
slice_get-append_left (x ∷ xs) ys (suc i) within = slice_get-append_left xs ys i (omega arith)

slice_get-append_right : {X : Type 0} (xs ys : List X) (i : ℕ) → length xs ≤ i
    → slice_get (xs ++ ys) i ≡ slice_get ys (i - length xs)
slice_get-append_right [] ys i past = ap (λ n. slice_get ys n) (omega arith)
slice_get-append_right (x ∷ xs) ys zero past = absurd (omega arith)
slice_get-append_right (x ∷ xs) ys (suc i) past =
    slice_get-append_right xs ys i (omega arith) ∙ ap (λ n. slice_get ys n) (omega arith)

-- the number at an index, if the first flags have so many
pub nth_number-left : (first : ℕ) (flags others : List Bool) (index : ℕ) → index < count_set flags
    → slice_get (numbers_from first (flags ++ others)) index ≡ option_map (λ n. first + n) (nth_number flags index)
nth_number-left first flags others index within =
    ap (λ l. slice_get l index) (numbers_from-append first flags others)
    ∙ slice_get-append_left (numbers_from first flags) (numbers_from (first + length flags) others) index
    (omega (arith, length-numbers_from first flags))
    ∙ ap (λ n. slice_get (numbers_from n flags) index) (omega arith)
    ∙ ap (λ l. slice_get l index) (numbers_from-add first 0 flags)
    ∙ slice_get-map (λ n. first + n) (numbers_of flags) index

-- and if they don't
pub nth_number-right : (first : ℕ) (flags others : List Bool) (index : ℕ) → count_set flags ≤ index
    → slice_get (numbers_from first (flags ++ others)) index
    ≡ slice_get (numbers_from (first + length flags) others) (index - count_set flags)
nth_number-right first flags others index past =
    let long = length-numbers_from first flags in
    ap (λ l. slice_get l index) (numbers_from-append first flags others)
    ∙ slice_get-append_right (numbers_from first flags) (numbers_from (first + length flags) others) index (omega arith)
    ∙ ap (λ n. slice_get (numbers_from (first + length flags) others) (index - n)) long

-- the numbers of the flags after the first one are one higher
pub nth_number-next : (first : ℕ) (flags : List Bool) (index : ℕ)
    → slice_get (numbers_from (first + 1) flags) index ≡ option_map suc (slice_get (numbers_from first flags) index)
nth_number-next first [] index = refl
nth_number-next first (true ∷ flags) zero = ap Some (add-one first)
nth_number-next first (true ∷ flags) (suc index) = nth_number-next (first + 1) flags index
nth_number-next first (false ∷ flags) index = nth_number-next (first + 1) flags index
