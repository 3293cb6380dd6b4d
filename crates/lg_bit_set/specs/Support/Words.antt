-- Flags as words of 64 bits, the lowest bit first.
use Rattle.std.specs.Prelude.{
  ◌≡◌,
  ℕ,
  zero,
  suc,
  ◌/◌,
  ◌%◌,
  ◌^◌,
  ◌<◌,
  Bool,
  cond,
  List,
  [],
  ◌∷◌,
  ◌++◌,
  nat_eq,
  length,
  take,
  drop,
  slice_index,
}
use Rattle.std.specs.Int.{bit_at}
use Rattle.std.specs.Simd.Lanes.{mask_l}
use Rattle.std.proofs.Common.{arith, ap, refl, inl, inr}
use Rattle.std.proofs.Math.Nat.{pow-suc}
use Rattle.std.proofs.lemmas.Bool.{cases_eq, eq-eqb, ne_eqb}
use Rattle.std.proofs.lemmas.List.{take_at, drop_at}
use Rattle.lg_bit_set.specs.declared.bit_set.BitSet.TheInside.{Inside}

-- the lowest bits of a word as flags
unfoldable pub word_flags : ℕ → ℕ → List Bool
word_flags zero word = []
word_flags (suc places) word = nat_eq (word % 2) 1 ∷ word_flags places (word / 2)

-- the bits of some words as flags
unfoldable pub flags_of : List ℕ → List Bool
flags_of [] = []
flags_of (word ∷ words) = word_flags 64 word ++ flags_of words

-- so many words that have these flags
unfoldable pub words_from : ℕ → List Bool → List ℕ
words_from zero flags = []
words_from (suc count) flags = mask_l (take 64 flags) ∷ words_from count (drop 64 flags)

-- the bit of the words that says whether a number is in the set
abbrev pub bit_flag : List ℕ → ℕ → ℕ
bit_flag words number = bit_at (slice_index words (number / 64)) (number % 64)

-- Four words of 64 bits.
pub record AreWords (words : List ℕ) : Type 0 where
  pub four : length words ≡ 4
  pub fit : (i : ℕ) → slice_index words i < 2 ^ 64

pub length-word_flags : (places word : ℕ) → length (word_flags places word) ≡ places
unfolding word_flags
length-word_flags zero word = refl
length-word_flags (suc places) word = ap suc (length-word_flags places (word / 2))

lowest_bit : (word : ℕ) → cond (nat_eq (word % 2) 1) 1 0 ≡ word % 2
lowest_bit word =
    elim (cases_eq (word % 2) 1) [
      | inl set ↦ rw (eq-eqb (word % 2) 1 set, set) refl
      | inr clear ↦ rw (ne_eqb (word % 2) 1 clear) (omega arith)
    ]

pub mask_l-word_flags : (places word : ℕ) → word < 2 ^ places → mask_l (word_flags places word) ≡ word
unfolding word_flags
mask_l-word_flags zero word fits = omega arith
mask_l-word_flags (suc places) word fits =
    let half : word / 2 < 2 ^ places = omega (arith, pow-suc 2 places) in
    rw (mask_l-word_flags places (word / 2) half, lowest_bit word) (omega arith)

words_from-flags_of : (words : List ℕ) → ((i : ℕ) → slice_index words i < 2 ^ 64)
    → words_from (length words) (flags_of words) ≡ words
unfolding words_from flags_of
words_from-flags_of [] fit = refl
words_from-flags_of (word ∷ words) fit =
    let long = length-word_flags 64 word in
    rw (
      take_at (word_flags 64 word) (flags_of words) 64 long,
      drop_at (word_flags 64 word) (flags_of words) 64 long,
      mask_l-word_flags 64 word (fit 0),
      words_from-flags_of words (λ i. fit (suc i)),
    ) refl

-- so the flags determine the words
pub words_of_flags : (words : List ℕ) → AreWords words → words_from 4 (flags_of words) ≡ words
words_of_flags words are = rw (← are.four) (words_from-flags_of words are.fit)

pub words_back : (fields : Inside) → AreWords fields.words
    → ◌≡◌ {A = Inside} record { words = words_from 4 (flags_of fields.words) } fields
words_back fields are =
    let back = words_of_flags fields.words are in
    λ i. record { words = back i }
