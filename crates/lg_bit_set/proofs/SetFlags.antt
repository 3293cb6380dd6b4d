-- The words' bits as flags.
use Rattle.std.proofs.Common.{
  ◌≡◌,
  ◌≢◌,
  ℕ,
  zero,
  suc,
  ◌+◌,
  ◌-◌,
  ◌*◌,
  ◌/◌,
  ◌%◌,
  ◌^◌,
  ◌<◌,
  ◌≤◌,
  Bool,
  true,
  false,
  List,
  [],
  ◌∷◌,
  length,
  get_or,
  set,
  refl,
  sym,
  ap,
  ◌∙◌,
  subst,
  inl,
  inr,
  arith,
  w64,
  length-append,
  length-set,
}
use Rattle.std.specs.Prelude.{bit_and, bit_or, nat_eq, sum, map, replicate}
use Rattle.std.specs.Int.Count.{ones}
use Rattle.std.proofs.lemmas.Nat.Bits.{bit_at_set_same, bit_at_set_other, bit_at_clear_same, bit_at_clear_other}
use Rattle.std.specs.Int.{bit_at, bit_not}
use Rattle.std.proofs.lemmas.Bool.{cases_eq, cases_lt, eq-eqb, ne_eqb}
use Rattle.std.proofs.lemmas.Nat.{ones_le_self, zero_from_ones}
use Rattle.std.proofs.lemmas.List.{
  ext_get_or,
  get_or_append_left,
  get_or-append_right,
  get_or-set_same,
  get_or-set_other,
}
use Rattle.lg_bit_set.specs.Meaning.Flags.{no_flags, count_set}
use Rattle.lg_bit_set.specs.Support.Words.{bit_flag, word_flags, flags_of, AreWords, length-word_flags}
use Rattle.lg_bit_set.proofs.WordFlags.{get_or-word_flags, count_set-word_flags}
use Rattle.std.proofs.lemmas.List.Sums.{sum_by-cons}
use Rattle.lg_bit_set.proofs.Numbers.{count_set-append}

pub length-flags_of : (words : List ℕ) → length (flags_of words) ≡ 64 * length words
unfolding flags_of
length-flags_of [] = refl
length-flags_of (word ∷ words) =
    length-append (word_flags 64 word) (flags_of words)
    ∙ omega (arith, length-word_flags 64 word, length-flags_of words)

pub get_or-flags_of : (words : List ℕ) (number : ℕ) → number < 64 * length words
    → get_or (flags_of words) number false ≡ nat_eq (bit_flag words number) 1
unfolding flags_of
get_or-flags_of [] number within = absurd (omega arith)
get_or-flags_of (word ∷ words) number within =
    let long = length-word_flags 64 word in
    elim (cases_lt number 64) [
      | inl here ↦
          let index : number / 64 ≡ 0 = omega arith in
          let place : number % 64 ≡ number = omega arith in
          get_or_append_left (word_flags 64 word) (flags_of words) false number (omega arith)
          ∙ rw (index, place) (get_or-word_flags 64 word number here)
      | inr later ↦
          let index : number / 64 ≡ suc ((number - 64) / 64) = omega arith in
          let place : number % 64 ≡ (number - 64) % 64 = omega arith in
          get_or-append_right (word_flags 64 word) (flags_of words) 64 number false long later
          ∙ rw (index, place) (get_or-flags_of words (number - 64) (omega arith))
    ]

-- the words have these flags if each bit agrees
pub flags_from_bits : (words : List ℕ) (flags : List Bool) → length flags ≡ 64 * length words
    → ((number : ℕ) → number < 64 * length words → nat_eq (bit_flag words number) 1 ≡ get_or flags number false)
    → flags_of words ≡ flags
flags_from_bits words flags long each =
    ext_get_or false (flags_of words) flags (length-flags_of words ∙ sym long)
    (λ i within.
    let inside : i < 64 * length words = subst (λ n. i < n) (length-flags_of words) within in
    get_or-flags_of words i inside ∙ each i inside)

-- one bit of one word is changed
module _ (words : List ℕ) (number word : ℕ) (flag : Bool) (within : number < 64 * length words)
    (same : nat_eq (bit_at word (number % 64)) 1 ≡ flag)
    (others : (i : ℕ) → i < 64 → i ≢ number % 64 → bit_at word i ≡ bit_at (get_or words (number / 64) 0) i) where
  changed_bit : (i : ℕ) → i < 64 * length words
      → nat_eq (bit_flag (set words (number / 64) word) i) 1 ≡ get_or (set (flags_of words) number flag) i false
  changed_bit i inside =
      let long = length-flags_of words in
      let index : number / 64 < length words = omega arith in
      elim (cases_eq i number) [
        | inl here ↦
            rw here
            (rw (get_or-set_same words (number / 64) word 0 index)
            (same ∙ sym (get_or-set_same (flags_of words) number flag false (omega arith))))
        | inr there ↦
            rw (get_or-set_other (flags_of words) number i flag false there, get_or-flags_of words i inside)
            (elim (cases_eq (i / 64) (number / 64)) [
              | inl near ↦
                  rw (near, get_or-set_same words (number / 64) word 0 index)
                  (ap (λ bit. nat_eq bit 1) (others (i % 64) (omega arith) (omega arith)))
              | inr far ↦ rw (get_or-set_other words (number / 64) (i / 64) word 0 far) refl
            ])
      ]

  pub set_bit : flags_of (set words (number / 64) word) ≡ set (flags_of words) number flag
  set_bit =
      flags_from_bits (set words (number / 64) word) (set (flags_of words) number flag)
      (length-set (flags_of words) number flag ∙ length-flags_of words
      ∙ ap (λ n. 64 * n) (sym (length-set words (number / 64) word)))
      (λ i inside. changed_bit i (subst (λ n. i < 64 * n) (length-set words (number / 64) word) inside))

pub flags_long : (words : List ℕ) → AreWords words → length (flags_of words) ≡ 256
flags_long words are = length-flags_of words ∙ rw are.four refl

pub AreWords-set : (words : List ℕ) (i word : ℕ) → AreWords words → i < 4 → word < 2 ^ 64 → AreWords (set words i word)
AreWords-set words i word are within fits = record {
  four = length-set words i word ∙ are.four;
  fit = λ j. elim (cases_eq j i) [
    | inl same ↦ rw (same, get_or-set_same words i word 0 (rw are.four within)) fits
    | inr other ↦ rw (get_or-set_other words i j word 0 other) (are.fit j)
  ];
}

pub insert_bit : (words : List ℕ) (number : ℕ) → AreWords words → number < 256
    → flags_of (set words (number / 64) (bit_or (get_or words (number / 64) 0) (1 * 2 ^ (number % 64) % 2 ^ 64)))
    ≡ set (flags_of words) number true
insert_bit words number are within =
    let place : number % 64 < 64 = omega arith in
    let word : ℕ = get_or words (number / 64) 0 in
    set_bit words number (bit_or word (1 * 2 ^ (number % 64) % 2 ^ 64)) true (rw are.four within)
    (ap (λ bit. nat_eq bit 1) (bit_at_set_same w64 word (number % 64) place))
    (λ i inside other. bit_at_set_other w64 word (number % 64) place i other)

pub remove_bit : (words : List ℕ) (number : ℕ) → AreWords words → number < 256
    → flags_of
    (set words (number / 64) (bit_and (get_or words (number / 64) 0) (bit_not w64 (1 * 2 ^ (number % 64) % 2 ^ 64))))
    ≡ set (flags_of words) number false
remove_bit words number are within =
    let place : number % 64 < 64 = omega arith in
    let word : ℕ = get_or words (number / 64) 0 in
    set_bit words number (bit_and word (bit_not w64 (1 * 2 ^ (number % 64) % 2 ^ 64))) false (rw are.four within)
    (ap (λ bit. nat_eq bit 1) (bit_at_clear_same w64 word (number % 64) place))
    (λ i inside other. bit_at_clear_other w64 word (number % 64) place i inside other)

-- the fourth word is the last
pub four_words : (words : List ℕ) → length words ≡ 4
    → words ≡ get_or words 0 0 ∷ get_or words 1 0 ∷ get_or words 2 0 ∷ get_or words 3 0 ∷ []
four_words [] long = absurd (omega arith)
four_words (a ∷ []) long = absurd (omega arith)
four_words (a ∷ b ∷ []) long = absurd (omega arith)
four_words (a ∷ b ∷ c ∷ []) long = absurd (omega arith)
four_words (a ∷ b ∷ c ∷ d ∷ []) long = refl
four_words (a ∷ b ∷ c ∷ d ∷ e ∷ more) long = absurd (omega arith)

count_flags : (words : List ℕ) → ((i : ℕ) → get_or words i 0 < 2 ^ 64)
    → count_set (flags_of words) ≡ sum (map ones words)
unfolding flags_of
count_flags [] fit = refl
count_flags (word ∷ words) fit =
    count_set-append (word_flags 64 word) (flags_of words)
    ∙ rw (count_set-word_flags 64 word (fit 0), count_flags words (λ i. fit (suc i)))
    (sym (sum_by-cons (λ n. n) (ones word) (map ones words)))

pub count_words : (words : List ℕ) → AreWords words
    → ones (get_or words 0 0) + ones (get_or words 1 0) + ones (get_or words 2 0) + ones (get_or words 3 0)
    ≡ count_set (flags_of words)
count_words words are =
    let counts : sum (map ones words) ≡ _ = ap (λ l. sum (map ones l)) (four_words words are.four) in
    omega (arith, counts, count_flags words are.fit)

-- no number is in the set if no word has a bit, and else one is
pub none_set : (words : List ℕ) → AreWords words → get_or words 0 0 ≡ 0 → get_or words 1 0 ≡ 0 → get_or words 2 0 ≡ 0
    → get_or words 3 0 ≡ 0 → nat_eq (count_set (flags_of words)) 0 ≡ true
none_set words are a b c d =
    let none : count_set (flags_of words) ≡ 0 =
    omega (
      arith,
      count_words words are,
      ones_le_self (get_or words 0 0),
      ones_le_self (get_or words 1 0),
      ones_le_self (get_or words 2 0),
      ones_le_self (get_or words 3 0),
    ) in
    eq-eqb (count_set (flags_of words)) 0 none

pub some_bit : (word : ℕ) → word ≢ 0 → 0 < ones word
some_bit word some = elim (cases_eq (ones word) 0) [
  | inl none ↦ absurd (some (zero_from_ones word none))
  | inr more ↦ omega arith
]

pub no_ones : (word : ℕ) → word ≡ 0 → ones word ≡ 0
no_ones word none = omega (arith, ones_le_self word)

pub some_set : (words : List ℕ) → AreWords words → (i : ℕ) → i < 4 → get_or words i 0 ≢ 0
    → nat_eq (count_set (flags_of words)) 0 ≡ false
some_set words are i within some =
    let one : ones (get_or words i 0) ≤ count_set (flags_of words) = among i within in
    let count : count_set (flags_of words) ≢ 0 = (λ e. absurd (omega (arith, e, one, some_bit (get_or words i 0) some))) in
    ne_eqb (count_set (flags_of words)) 0 count
  where
    among : (i : ℕ) → i < 4 → ones (get_or words i 0) ≤ count_set (flags_of words)
    among zero within = omega (arith, count_words words are)
    among (suc zero) within = omega (arith, count_words words are)
    among (suc (suc zero)) within = omega (arith, count_words words are)
    among (suc (suc (suc zero))) within = omega (arith, count_words words are)
    among (suc (suc (suc (suc i)))) within = absurd (omega arith)

zero_word : word_flags 64 0 ≡ replicate 64 false
unfolding word_flags
zero_word = refl

pub no_words : flags_of (0 ∷ 0 ∷ 0 ∷ 0 ∷ []) ≡ no_flags
unfolding flags_of no_flags
no_words = rw zero_word refl

pub length-no_flags : length no_flags ≡ 256
unfolding no_flags
length-no_flags = refl
