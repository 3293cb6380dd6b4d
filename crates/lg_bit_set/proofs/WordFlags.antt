-- One word's bits as flags.
use Rattle.std.proofs.Common.{
  ◌≡◌,
  ℕ,
  zero,
  suc,
  ◌+◌,
  ◌-◌,
  ◌/◌,
  ◌%◌,
  ◌^◌,
  ◌<◌,
  false,
  List,
  ◌∷◌,
  get_or,
  refl,
  sym,
  ap,
  ◌∙◌,
  inl,
  inr,
  arith,
}
use Rattle.std.specs.Prelude.{bit_and, nat_eq}
use Rattle.std.specs.Int.{bit_at}
use Rattle.std.specs.Int.Count.{ones, ones_step, count_trailing_zeros}
use Rattle.std.proofs.Math.Nat.{pow-suc}
use Rattle.std.proofs.lemmas.Bool.{cases_eq, eq-eqb, ne_eqb}
use Rattle.std.proofs.lemmas.Nat.{and_shr, and_mod}
use Rattle.std.specs.Int.Bits.{and_self}
use Rattle.std.proofs.lemmas.Nat.Bits.{bit_at_lowest, bit_at-suc}
use Rattle.lg_bit_set.specs.Meaning.Flags.{numbers_from, count_set}
use Rattle.lg_bit_set.specs.Support.Words.{word_flags}
use Rattle.lg_bit_set.proofs.Numbers.{count_set-set, count_set-clear}

cons_eq : {m n : ℕ} {l : List ℕ} → m ≡ n → m ∷ l ≡ n ∷ l
cons_eq {m} {n} {l} e = ap (λ h. h ∷ l) e

pub half_fits : (places word : ℕ) → word < 2 ^ suc places → word / 2 < 2 ^ places
half_fits places word fits = omega (arith, pow-suc 2 places)

pub get_or-word_flags : (places word i : ℕ) → i < places
    → get_or (word_flags places word) i false ≡ nat_eq (bit_at word i) 1
unfolding word_flags
get_or-word_flags zero word i within = absurd (omega arith)
get_or-word_flags (suc places) word zero within = rw (bit_at_lowest word) refl
get_or-word_flags (suc places) word (suc i) within =
    get_or-word_flags places (word / 2) i (omega arith) ∙ ap (λ bit. nat_eq bit 1) (sym (bit_at-suc word i))

pub count_set-word_flags : (places word : ℕ) → word < 2 ^ places → count_set (word_flags places word) ≡ ones word
unfolding word_flags ones
count_set-word_flags zero word fits =
    let none : word ≡ 0 = omega arith in
    rw none refl
count_set-word_flags (suc places) word fits =
    let flags = word_flags places (word / 2) in
    let rest = count_set-word_flags places (word / 2) (half_fits places word fits) in
    let step = ones_step word in
    elim (cases_eq (word % 2) 1) [
      | inl set ↦ rw (eq-eqb (word % 2) 1 set) (count_set-set flags ∙ ap (λ n. 1 + n) rest ∙ rw (← set) (sym step))
      | inr clear ↦
          let even : word % 2 ≡ 0 = omega arith in
          rw (ne_eqb (word % 2) 1 clear) (count_set-clear flags ∙ ap (λ n. 0 + n) rest ∙ rw (← even) (sym step))
    ]

lowest_clear : (word : ℕ) → 0 < word → word % 2 ≡ 0
    → (bit_and word (word - 1) % 2 ≡ 0) × (bit_and word (word - 1) / 2 ≡ bit_and (word / 2) (word / 2 - 1))
lowest_clear word some clear =
    let half : (word - 1) / 2 ≡ word / 2 - 1 = omega arith in
    let low = and_mod word (word - 1) 1 in
    let high = and_shr word (word - 1) 1 in
    (low ∙ rw clear refl, high ∙ rw half refl)

lowest_set : (word : ℕ) → word % 2 ≡ 1
    → (bit_and word (word - 1) % 2 ≡ 0) × (bit_and word (word - 1) / 2 ≡ word / 2)
lowest_set word set =
    let half : (word - 1) / 2 ≡ word / 2 = omega arith in
    let even : (word - 1) % 2 ≡ 0 = omega arith in
    let low = and_mod word (word - 1) 1 in
    let high = and_shr word (word - 1) 1 in
    (low ∙ rw (set, even) refl, high ∙ rw half (and_self (word / 2)))

module _ (places word first : ℕ)
    (rest : (first : ℕ) → 0 < word / 2
    → numbers_from first (word_flags places (word / 2))
    ≡ (first + count_trailing_zeros places (word / 2))
    ∷ numbers_from first (word_flags places (bit_and (word / 2) (word / 2 - 1)))) where
  step_set : word % 2 ≡ 1
      → numbers_from first (word_flags (suc places) word)
      ≡ (first + count_trailing_zeros (suc places) word)
      ∷ numbers_from first (word_flags (suc places) (bit_and word (word - 1)))
  unfolding word_flags count_trailing_zeros
  step_set set =
      let parts = lowest_set word set in
      rw (set, parts.0, parts.1)
      (cons_eq (omega arith))

  step_clear : 0 < word → word % 2 ≡ 0
      → numbers_from first (word_flags (suc places) word)
      ≡ (first + count_trailing_zeros (suc places) word)
      ∷ numbers_from first (word_flags (suc places) (bit_and word (word - 1)))
  unfolding word_flags count_trailing_zeros
  step_clear some clear =
      let parts = lowest_clear word some clear in
      rw (clear, parts.0, parts.1)
      (rest (first + 1) (omega arith) ∙ cons_eq (omega arith))

-- clearing the lowest bit that is set takes the least number out
pub numbers_step : (places word first : ℕ) → 0 < word → word < 2 ^ places
    → numbers_from first (word_flags places word)
    ≡ (first + count_trailing_zeros places word) ∷ numbers_from first (word_flags places (bit_and word (word - 1)))
numbers_step zero word first some fits = absurd (omega arith)
numbers_step (suc places) word first some fits =
    let rest = λ (next : ℕ) (half : 0 < word / 2). numbers_step places (word / 2) next half
    (half_fits places word fits) in
    elim (cases_eq (word % 2) 1) [
      | inl set ↦ step_set places word first rest set
      | inr clear ↦ step_clear places word first rest some (omega arith)
    ]
