-- The words of the numbers below a count.
use Rattle.std.proofs.Common.{
  ◌≡◌,
  ℕ,
  ◌+◌,
  ◌-◌,
  ◌/◌,
  ◌%◌,
  ◌<◌,
  false,
  [],
  ◌∷◌,
  length,
  get_or,
  sym,
  ap,
  ◌∙◌,
  inl,
  inr,
  arith,
}
use Rattle.std.specs.Prelude.{nat_eq, nat_lt}
use Rattle.std.specs.Int.{bit_at}
use Rattle.std.specs.List.{range_with_len}
use Rattle.std.proofs.lemmas.Bool.{cases_lt}
use Rattle.std.proofs.lemmas.Bool.Decides.{nat_tests}
use Rattle.std.proofs.lemmas.List.{get_or-map, length-map}
use Rattle.std.proofs.lemmas.List.FromFn.{get_or-range_with_len}
use Rattle.lg_bit_set.specs.Meaning.Flags.{flags_below}
use Rattle.lg_bit_set.specs.Support.Words.{bit_flag, flags_of}
use Rattle.lg_bit_set.proofs.SetFlags.{flags_from_bits}

-- the flags of the numbers below a count
pub length-flags_below : (count : ℕ) → length (flags_below count) ≡ 256
unfolding flags_below
length-flags_below count = length-map (range_with_len 0 256) (λ number. nat_lt number count)

pub get_or-flags_below : (count number : ℕ) → number < 256
    → get_or (flags_below count) number false ≡ nat_lt number count
unfolding flags_below
get_or-flags_below count number within =
    get_or-map (λ n. nat_lt n count) (range_with_len 0 256) number 0 false within
    ∙ ap (λ n. nat_lt n count) (get_or-range_with_len 0 256 number 0 within ∙ omega arith)

-- a word has the flags of the numbers below a count, from a number on
abbrev pub HasBelow : ℕ → ℕ → ℕ → Type 0
HasBelow count from word = (i : ℕ) → i < 64 → nat_eq (bit_at word i) 1 ≡ nat_lt i (count - from)

later_below : (count from i : ℕ) → nat_lt i (count - from) ≡ nat_lt (from + i) count
later_below count from i = grind (arith, nat_tests)

module _ (count a b c d : ℕ) (first : HasBelow count 0 a) (second : HasBelow count 64 b) (third : HasBelow count 128 c)
    (fourth : HasBelow count 192 d) where
  -- one of the four words
  word_below : (from word i number : ℕ) → HasBelow count from word → i < 64 → from + i ≡ number
      → nat_eq (bit_at word i) 1 ≡ nat_lt number count
  word_below from word i number has within e =
      has i within ∙ later_below count from i ∙ ap (λ n. nat_lt n count) e

  below_bit : (number : ℕ) → number < 256 → nat_eq (bit_flag (a ∷ b ∷ c ∷ d ∷ []) number) 1 ≡ nat_lt number count
  below_bit number within =
      let small : number % 64 < 64 = omega arith in
      elim (cases_lt number 64) [
        | inl p ↦
            let here : number / 64 ≡ 0 = omega arith in
            rw here (word_below 0 a (number % 64) number first small (omega arith))
        | inr p ↦
            elim (cases_lt number 128) [
              | inl q ↦
                  let here : number / 64 ≡ 1 = omega arith in
                  rw here (word_below 64 b (number % 64) number second small (omega arith))
              | inr q ↦
                  elim (cases_lt number 192) [
                    | inl r ↦
                        let here : number / 64 ≡ 2 = omega arith in
                        rw here (word_below 128 c (number % 64) number third small (omega arith))
                    | inr r ↦
                        let here : number / 64 ≡ 3 = omega arith in
                        rw here (word_below 192 d (number % 64) number fourth small (omega arith))
                  ]
            ]
      ]

  pub below_flags : flags_of (a ∷ b ∷ c ∷ d ∷ []) ≡ flags_below count
  below_flags =
      flags_from_bits (a ∷ b ∷ c ∷ d ∷ []) (flags_below count) (length-flags_below count)
      (λ number within. below_bit number within ∙ sym (get_or-flags_below count number within))
