-- The flags of two sets together.
use Rattle.std.proofs.Common.{◌≡◌, ℕ, zero, suc, ◌/◌, ◌%◌, ◌^◌, ◌<◌, max, false, ◌||◌, List, [], ◌∷◌, get_or, refl, ap}
use Rattle.std.proofs.Common.{◌∙◌, arith, inl, inr}
use Rattle.std.specs.Prelude.{bit_or, nat_eq}
use Rattle.std.specs.Int.{bit_at}
use Rattle.std.proofs.lemmas.Bool.{cases_lt}
use Rattle.std.proofs.lemmas.List.{get_or_past}
use Rattle.std.proofs.lemmas.Nat.{or_lt}
use Rattle.std.proofs.lemmas.Nat.Bits.{bit_at_or, bit_at-lt}
use Rattle.lg_bit_set.specs.Support.Words.{flags_of, AreWords}
use Rattle.lg_bit_set.proofs.SetFlags.{flags_long, get_or-flags_of}

either_bit : (a b : ℕ) → a < 2 → b < 2 → nat_eq (max a b) 1 ≡ (nat_eq a 1 || nat_eq b 1)
either_bit zero zero p q = refl
either_bit zero (suc zero) p q = refl
either_bit (suc zero) zero p q = refl
either_bit (suc zero) (suc zero) p q = refl
either_bit (suc (suc a)) b p q = absurd (omega arith)
either_bit a (suc (suc b)) p q = absurd (omega arith)

module _ (words others : List ℕ) (are : AreWords words) (also : AreWords others) where
  -- the words with the bits of both
  abbrev pub united : List ℕ
  united =
      bit_or (get_or words 0 0) (get_or others 0 0) ∷ bit_or (get_or words 1 0) (get_or others 1 0)
      ∷ bit_or (get_or words 2 0) (get_or others 2 0) ∷ bit_or (get_or words 3 0) (get_or others 3 0) ∷ []

  fits : (i : ℕ) → bit_or (get_or words i 0) (get_or others i 0) < 2 ^ 64
  fits i = or_lt 64 (get_or words i 0) (get_or others i 0) (are.fit i) (also.fit i)

  united_fit : (i : ℕ) → get_or united i 0 < 2 ^ 64
  united_fit zero = fits 0
  united_fit (suc zero) = fits 1
  united_fit (suc (suc zero)) = fits 2
  united_fit (suc (suc (suc zero))) = fits 3
  united_fit (suc (suc (suc (suc i)))) = omega arith

  pub AreWords-united : AreWords united
  AreWords-united = record { four = refl; fit = united_fit }

  united_at : (i : ℕ) → i < 4 → get_or united i 0 ≡ bit_or (get_or words i 0) (get_or others i 0)
  united_at zero within = refl
  united_at (suc zero) within = refl
  united_at (suc (suc zero)) within = refl
  united_at (suc (suc (suc zero))) within = refl
  united_at (suc (suc (suc (suc i)))) within = absurd (omega arith)

  -- a number within the words
  united_within : (number : ℕ) → number < 256
      → get_or (flags_of united) number false
      ≡ (get_or (flags_of words) number false || get_or (flags_of others) number false)
  united_within number within =
      let word = get_or words (number / 64) 0 in
      let other = get_or others (number / 64) 0 in
      let place = number % 64 in
      get_or-flags_of united number within
      ∙ ap (λ w. nat_eq (bit_at w place) 1) (united_at (number / 64) (omega arith))
      ∙ ap (λ bit. nat_eq bit 1) (bit_at_or word other place)
      ∙ either_bit (bit_at word place) (bit_at other place) (bit_at-lt word place) (bit_at-lt other place)
      ∙ rw (
        get_or-flags_of words number (rw are.four within),
        get_or-flags_of others number (rw also.four within),
      ) refl

  pub united_flags : (number : ℕ)
      → get_or (flags_of united) number false
      ≡ (get_or (flags_of words) number false || get_or (flags_of others) number false)
  united_flags number = elim (cases_lt number 256) [
    | inl within ↦ united_within number within
    | inr past ↦ rw (
      get_or_past (flags_of united) number false (rw (flags_long united AreWords-united) past),
      get_or_past (flags_of words) number false (rw (flags_long words are) past),
      get_or_past (flags_of others) number false (rw (flags_long others also) past),
    ) refl
  ]
