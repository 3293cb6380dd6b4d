-- The lowest places of a word, and the others.
use Rattle.std.proofs.Common.{
  ◌≡◌,
  ℕ,
  zero,
  suc,
  ◌+◌,
  ◌-◌,
  ◌*◌,
  ◌/◌,
  ◌%◌,
  ◌^◌,
  ◌<◌,
  ◌≤◌,
  Bool,
  true,
  false,
  List,
  [],
  ◌∷◌,
  ◌++◌,
  length,
  drop,
  set,
  zero-add,
  Some,
  None,
  refl,
  sym,
  ap,
  subst,
  ◌∙◌,
  arith,
}
use Rattle.std.specs.Prelude.{bit_and, nat_eq}
use Rattle.std.specs.List.{slice_get}
use Rattle.std.specs.Option.{option_map}
use Rattle.std.specs.Int.Count.{ones}
use Rattle.std.proofs.Math.Nat.{div-eq_of_lt}
use Rattle.std.proofs.Math.Pow.{mod-mod-pow, shr_lt}
use Rattle.std.proofs.lemmas.Nat.{and_mask, one_shl, shr-shr, mod-pow-add, mod_below, pow_pos}
use Rattle.std.proofs.lemmas.Option.{slice_get-map}
use Rattle.std.proofs.lemmas.List.{append-nil}
use Rattle.lg_bit_set.specs.Meaning.Flags.{numbers_from, numbers_of, nth_number, count_set}
use Rattle.lg_bit_set.specs.Support.Words.{word_flags, length-word_flags}
use Rattle.lg_bit_set.proofs.Numbers.{numbers_from-append, numbers_from-add, nth_number-right, count_set-append}
use Rattle.lg_bit_set.proofs.WordFlags.{count_set-word_flags}

-- the flags of a word are those of its lowest places, and those of the rest
halved : (low word : ℕ) → word / 2 / 2 ^ low ≡ word / 2 ^ suc low
halved low word = shr-shr word 1 low ∙ ap (λ n. word / 2 ^ n) (omega arith)

pub split_flags : (low high word : ℕ)
    → word_flags (low + high) word ≡ word_flags low word ++ word_flags high (word / 2 ^ low)
unfolding word_flags
split_flags zero high word =
    let same : word / 1 ≡ word = omega arith in
    ap (λ n. word_flags n word) (zero-add high) ∙ ap (word_flags high) (sym same)
split_flags (suc low) high word =
    let more : suc low + high ≡ suc (low + high) = omega arith in
    ap (λ n. word_flags n word) more
    ∙ ap (λ flags. nat_eq (word % 2) 1 ∷ flags)
    (split_flags low high (word / 2) ∙ ap (λ n. word_flags low (word / 2) ++ word_flags high n) (halved low word))

-- only the lowest places matter
pub low_flags : (low word : ℕ) → word_flags low (word % 2 ^ low) ≡ word_flags low word
unfolding word_flags
low_flags zero word = refl
low_flags (suc low) word =
    let more : suc low ≡ low + 1 = omega arith in
    let first : word % 2 ^ suc low % 2 ≡ word % 2 =
    ap (λ n. word % 2 ^ n % 2) more ∙ mod-mod-pow word low 1 in
    let parts : word % 2 ^ suc low ≡ word / 2 % 2 ^ low * 2 + word % 2 =
    ap (λ n. word % 2 ^ n) more ∙ mod-pow-add word low 1 in
    let half : word % 2 ^ suc low / 2 ≡ word / 2 % 2 ^ low = omega arith in
    rw (first, half) (ap (λ flags. nat_eq (word % 2) 1 ∷ flags) (low_flags low (word / 2)))

-- a word of zeros has no numbers
no_bits : (places first : ℕ) → numbers_from first (word_flags places 0) ≡ []
unfolding word_flags
no_bits zero first = refl
no_bits (suc places) first = no_bits places (first + 1)

-- A word of 64 bits of which the lowest `low` places are passed by, and others are left.
module _ (low others word : ℕ) (all : low + others ≡ 64) (fits : word < 2 ^ 64) where
  whole : word_flags 64 word ≡ word_flags low word ++ word_flags others (word / 2 ^ low)
  whole = ap (λ n. word_flags n word) (sym all) ∙ split_flags low others word

  high_fits : word / 2 ^ low < 2 ^ others
  high_fits =
      let back : 64 ≡ others + low = omega (arith, all) in
      shr_lt others low (subst (λ n. word < 2 ^ n) back fits)

  -- how many bits are set
  low_count : count_set (word_flags low word) ≡ ones (word % 2 ^ low)
  low_count =
      ap count_set (sym (low_flags low word))
      ∙ count_set-word_flags low (word % 2 ^ low) (mod_below word (2 ^ low) (pow_pos low))

  pub count_parts : ones word ≡ ones (word % 2 ^ low) + ones (word / 2 ^ low)
  count_parts =
      omega (
        arith,
        count_set-word_flags 64 word fits,
        ap count_set whole,
        count_set-append (word_flags low word) (word_flags others (word / 2 ^ low)),
        low_count,
        count_set-word_flags others (word / 2 ^ low) high_fits,
      )

  -- the numbers of the rest, once it has 64 places
  rest_numbers : numbers_of (word_flags 64 (word / 2 ^ low)) ≡ numbers_of (word_flags others (word / 2 ^ low))
  rest_numbers =
      let rest = word / 2 ^ low in
      let none : rest / 2 ^ others ≡ 0 = div-eq_of_lt high_fits in
      let back : others + low ≡ 64 = omega (arith, all) in
      ap (λ n. numbers_of (word_flags n rest)) (sym back)
      ∙ ap numbers_of (split_flags others low rest)
      ∙ numbers_from-append 0 (word_flags others rest) (word_flags low (rest / 2 ^ others))
      ∙ ap (λ n. numbers_of (word_flags others rest) ++ numbers_from (0 + length (word_flags others rest)) (word_flags low n)) none
      ∙ ap (λ l. numbers_of (word_flags others rest) ++ l) (no_bits low (0 + length (word_flags others rest)))
      ∙ append-nil (numbers_of (word_flags others rest))

  -- where the bit is, if it isn't at the lowest places
  pub place_behind : (below n : ℕ) → ones (word % 2 ^ low) ≤ below
      → nth_number (word_flags 64 (word / 2 ^ low)) (below - ones (word % 2 ^ low)) ≡ Some n
      → nth_number (word_flags 64 word) below ≡ Some (low + n)
  place_behind below n past at =
      let flags = word_flags low word in
      let rest = word_flags others (word / 2 ^ low) in
      let first : 0 + length flags ≡ low + 0 = omega (arith, length-word_flags low word) in
      ap (λ l. nth_number l below) whole
      ∙ nth_number-right 0 flags rest below (omega (arith, low_count))
      ∙ ap (λ k. slice_get (numbers_from k rest) (below - count_set flags)) first
      ∙ ap (λ l. slice_get l (below - count_set flags)) (numbers_from-add low 0 rest)
      ∙ slice_get-map (λ k. low + k) (numbers_of rest) (below - count_set flags)
      ∙ ap (λ l. option_map (λ k. low + k) (slice_get l (below - count_set flags))) (sym rest_numbers)
      ∙ ap (λ k. option_map (λ m. low + m) (nth_number (word_flags 64 (word / 2 ^ low)) (below - k))) low_count
      ∙ ap (option_map (λ k. low + k)) at

-- the numbers of some flags are below how many flags there are
pub number_within : (flags : List Bool) (first index n : ℕ) → slice_get (numbers_from first flags) index ≡ Some n
    → n < first + length flags
number_within [] first zero n at = (let none : Some n ≡ None = sym at in absurd cc)
number_within [] first (suc index) n at = (let none : Some n ≡ None = sym at in absurd cc)
number_within (true ∷ flags) first zero n at = (let same : first ≡ n = cc in omega arith)
number_within (true ∷ flags) first (suc index) n at = omega (arith, number_within flags (first + 1) index n at)
number_within (false ∷ flags) first index n at = omega (arith, number_within flags (first + 1) index n at)

-- and not below the first one
number_from : (flags : List Bool) (first index n : ℕ) → slice_get (numbers_from first flags) index ≡ Some n → first ≤ n
number_from [] first zero n at = (let none : Some n ≡ None = sym at in absurd cc)
number_from [] first (suc index) n at = (let none : Some n ≡ None = sym at in absurd cc)
number_from (true ∷ flags) first zero n at = (let same : first ≡ n = cc in omega arith)
number_from (true ∷ flags) first (suc index) n at = omega (arith, number_from flags (first + 1) index n at)
number_from (false ∷ flags) first index n at = omega (arith, number_from flags (first + 1) index n at)

-- the lowest places of a word, by a mask
pub masked : (word width : ℕ) → width < 64 → bit_and word (1 * 2 ^ width % 2 ^ 64 - 1) ≡ word % 2 ^ width
masked word width within = ap (λ n. bit_and word (n - 1)) (one_shl width 64 within) ∙ and_mask word width

-- Without the least number the others are left.
first_out-from : (flags : List Bool) (first n : ℕ) → slice_get (numbers_from first flags) 0 ≡ Some (first + n)
    → numbers_from first (set flags n false) ≡ drop 1 (numbers_from first flags)
first_out-from [] first n at = refl
first_out-from (true ∷ flags) first zero at = refl
first_out-from (true ∷ flags) first (suc n) at = (let same : first ≡ first + suc n = cc in absurd (omega arith))
first_out-from (false ∷ flags) first zero at = absurd (less flags at)
  where
    less : (flags : List Bool) → slice_get (numbers_from (first + 1) flags) 0 ≡ Some (first + 0) → ⊥
    less flags e = omega (arith, number_from flags (first + 1) 0 (first + 0) e)
first_out-from (false ∷ flags) first (suc n) at =
    first_out-from flags (first + 1) n (at ∙ ap Some (omega arith))

pub first_out : (flags : List Bool) (n : ℕ) → nth_number flags 0 ≡ Some n
    → numbers_of (set flags n false) ≡ drop 1 (numbers_of flags)
first_out flags n at = first_out-from flags 0 n (at ∙ ap Some (omega arith))
