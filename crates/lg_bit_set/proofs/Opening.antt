-- The words of a set in which a place is opened.
use Rattle.std.proofs.Common.{
  ◌≡◌,
  ◌≢◌,
  ℕ,
  ◌+◌,
  ◌-◌,
  ◌/◌,
  ◌%◌,
  ◌^◌,
  ◌<◌,
  ◌≤◌,
  Bool,
  false,
  List,
  length,
  get_or,
  set,
  refl,
  sym,
  ap,
  ◌∙◌,
  arith,
  inl,
  inr,
  length-take-le,
}
use Rattle.std.specs.Prelude.{nat_eq}
use Rattle.std.specs.List.{insert}
use Rattle.std.specs.Int.{bit_at}
use Rattle.std.proofs.lemmas.Bool.{cases_lt, cases_eq}
use Rattle.std.proofs.lemmas.List.{get_or-set_same, get_or-set_other, get_or-take}
use Rattle.std.proofs.lemmas.List.Edits.{length-insert, get_or-insert_below, get_or-insert_at, get_or-insert_above}
use Rattle.lg_bit_set.specs.Meaning.Flags.{opened_flags}
use Rattle.lg_bit_set.specs.Support.Steps.{AreRisen, AreOpened}
use Rattle.lg_bit_set.specs.Support.Words.{AreWords, bit_flag, flags_of}
use Rattle.lg_bit_set.proofs.SetFlags.{AreWords-set, flags_from_bits, flags_long, get_or-flags_of}

-- the bit of a number in words of which one was written
pub bit_flag-set_same : (words : List ℕ) (i word number : ℕ) → i < length words → number / 64 ≡ i
    → bit_flag (set words i word) number ≡ bit_at word (number % 64)
bit_flag-set_same words i word number within here = rw (here, get_or-set_same words i word 0 within) refl

pub bit_flag-set_other : (words : List ℕ) (i word number : ℕ) → number / 64 ≢ i
    → bit_flag (set words i word) number ≡ bit_flag words number
bit_flag-set_other words i word number there = rw (get_or-set_other words i (number / 64) word 0 there) refl

pub AreRisen-none : (words : List ℕ) → AreWords words → AreRisen words words 4
AreRisen-none words are = record {
  are = are;
  kept = λ j below. refl;
  risen = λ number past within. absurd (omega arith);
}

-- one word more has risen
module _ (before words : List ℕ) (index word : ℕ) (some : 0 < index) (within : index < 4) (fits : word < 2 ^ 64)
    (so_far : AreRisen before words (index + 1)) (lowest : bit_at word 0 ≡ bit_at (get_or words (index - 1) 0) 63)
    (above : (i : ℕ) → i < 63 → bit_at word (i + 1) ≡ bit_at (get_or words index 0) i) where
  inside : index < length words
  inside = rw so_far.are.four within

  risen_here : (number : ℕ) → (number + 1) / 64 ≡ index → bit_at word ((number + 1) % 64) ≡ bit_flag before number
  risen_here number here =
      elim (cases_eq ((number + 1) % 64) 0) [
        | inl first ↦
            let last : number / 64 ≡ index - 1 = omega arith in
            let top : number % 64 ≡ 63 = omega arith in
            rw (first, last, top) (lowest ∙ ap (λ n. bit_at n 63) (so_far.kept (index - 1) (omega arith)))
        | inr later ↦
            let same : number / 64 ≡ index = omega arith in
            let next : (number + 1) % 64 ≡ number % 64 + 1 = omega arith in
            rw (next, same)
            (above (number % 64) (omega arith) ∙ ap (λ n. bit_at n (number % 64)) (so_far.kept index (omega arith)))
      ]

  pub AreRisen-more : AreRisen before (set words index word) index
  AreRisen-more = record {
    are = AreWords-set words index word so_far.are within fits;
    kept = λ j below. get_or-set_other words index j word 0 (omega arith) ∙ so_far.kept j (omega arith);
    risen = λ number past few.
        elim (cases_eq ((number + 1) / 64) index) [
          | inl here ↦ bit_flag-set_same words index word (number + 1) inside here ∙ risen_here number here
          | inr there ↦
              bit_flag-set_other words index word (number + 1) there ∙ so_far.risen number (omega arith) few
        ];
  }

-- the word with the place is opened last
module _ (before words : List ℕ) (number word : ℕ) (within : number < 256) (fits : word < 2 ^ 64)
    (risen : AreRisen before words (number / 64 + 1))
    (below : (i : ℕ) → i < number % 64 → bit_at word i ≡ bit_at (get_or words (number / 64) 0) i)
    (at : bit_at word (number % 64) ≡ 0)
    (above : (i : ℕ) → number % 64 ≤ i → i < 63 → bit_at word (i + 1) ≡ bit_at (get_or words (number / 64) 0) i) where
  at_word : number / 64 < length words
  at_word = rw risen.are.four (omega arith)

  same_word : get_or words (number / 64) 0 ≡ get_or before (number / 64) 0
  same_word = risen.kept (number / 64) (omega arith)

  opened_under : (other : ℕ) → other < number → bit_flag (set words (number / 64) word) other ≡ bit_flag before other
  opened_under other under =
      elim (cases_eq (other / 64) (number / 64)) [
        | inl here ↦
            bit_flag-set_same words (number / 64) word other at_word here
            ∙ below (other % 64) (omega arith) ∙ ap (λ n. bit_at n (other % 64)) same_word ∙ rw here refl
        | inr there ↦
            bit_flag-set_other words (number / 64) word other there
            ∙ ap (λ n. bit_at n (other % 64)) (risen.kept (other / 64) (omega arith))
      ]

  opened_over : (other : ℕ) → number ≤ other → other + 1 < 256
      → bit_flag (set words (number / 64) word) (other + 1) ≡ bit_flag before other
  opened_over other over few =
      elim (cases_eq ((other + 1) / 64) (number / 64)) [
        | inl here ↦
            let same : other / 64 ≡ number / 64 = omega arith in
            let next : (other + 1) % 64 ≡ other % 64 + 1 = omega arith in
            bit_flag-set_same words (number / 64) word (other + 1) at_word here
            ∙ rw (next, same)
            (above (other % 64) (omega arith) (omega arith) ∙ ap (λ n. bit_at n (other % 64)) same_word)
        | inr there ↦
            bit_flag-set_other words (number / 64) word (other + 1) there ∙ risen.risen other (omega arith) few
      ]

  pub AreOpened-all : AreOpened before (set words (number / 64) word) number
  AreOpened-all = record {
    are = AreWords-set words (number / 64) word risen.are (omega arith) fits;
    below = opened_under;
    here = bit_flag-set_same words (number / 64) word number at_word refl ∙ at;
    above = opened_over;
  }

-- the flags once a place was opened
module _ (flags : List Bool) (number : ℕ) (within : number < length flags) where
  pub length-opened_flags : length (opened_flags number flags) ≡ length flags
  length-opened_flags =
      length-take-le (length flags) (insert flags number false)
      (omega (arith, length-insert flags number false (omega arith)))

  pub get_or-opened_below : (i : ℕ) → i < number → get_or (opened_flags number flags) i false ≡ get_or flags i false
  get_or-opened_below i below =
      get_or-take (length flags) (insert flags number false) i false (omega arith)
      ∙ get_or-insert_below flags number false false i below (omega arith)

  pub get_or-opened_flags : get_or (opened_flags number flags) number false ≡ false
  get_or-opened_flags =
      get_or-take (length flags) (insert flags number false) number false within
      ∙ get_or-insert_at flags number false false (omega arith)

  pub get_or-opened_above : (i : ℕ) → number ≤ i → i + 1 < length flags
      → get_or (opened_flags number flags) (i + 1) false ≡ get_or flags i false
  get_or-opened_above i above few =
      get_or-take (length flags) (insert flags number false) (i + 1) false few
      ∙ get_or-insert_above flags number false false i above (omega arith)

module _ (before words : List ℕ) (number : ℕ) (within : number < 256) (are : AreWords before)
    (all : AreOpened before words number) where
  long : length (flags_of before) ≡ 256
  long = flags_long before are

  read : (i : ℕ) → i < 256 → nat_eq (bit_flag before i) 1 ≡ get_or (flags_of before) i false
  read i few = sym (get_or-flags_of before i (rw are.four few))

  opened_flag : (i : ℕ) → i < 256 → nat_eq (bit_flag words i) 1 ≡ get_or (opened_flags number (flags_of before)) i false
  opened_flag i few =
      let wide : length (flags_of before) ≡ 256 = long in
      let inside : number < length (flags_of before) = omega arith in
      elim (cases_lt i number) [
        | inl below ↦
            ap (λ bit. nat_eq bit 1) (all.below i below) ∙ read i few
            ∙ sym (get_or-opened_below (flags_of before) number inside i below)
        | inr from ↦
            elim (cases_eq i number) [
              | inl here ↦
                  rw here (ap (λ bit. nat_eq bit 1) all.here ∙ sym (get_or-opened_flags (flags_of before) number inside))
              | inr above ↦
                  let back : i ≡ i - 1 + 1 = omega arith in
                  rw back
                  (ap (λ bit. nat_eq bit 1) (all.above (i - 1) (omega arith) (omega arith)) ∙ read (i - 1) (omega arith)
                  ∙ sym (get_or-opened_above (flags_of before) number inside (i - 1) (omega arith) (omega arith)))
            ]
      ]

  pub words-opened : flags_of words ≡ opened_flags number (flags_of before)
  words-opened =
      flags_from_bits words (opened_flags number (flags_of before))
      (length-opened_flags (flags_of before) number (rw long within) ∙ long ∙ rw all.are.four refl)
      (λ i few. opened_flag i (rw all.are.four at few))
