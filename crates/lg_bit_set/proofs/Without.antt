-- The flags of one set without those of another.
use Rattle.std.proofs.Common.{
  ◌≡◌,
  ℕ,
  zero,
  suc,
  ◌-◌,
  ◌^◌,
  ◌<◌,
  min,
  Bool,
  false,
  not,
  ◌&&◌,
  List,
  [],
  ◌∷◌,
  ◌++◌,
  length,
  get_or,
  refl,
  sym,
  ap,
  ap₂,
  ◌∙◌,
  arith,
  w64,
}
use Rattle.std.specs.Prelude.{bit_and, nat_eq}
use Rattle.std.specs.Int.{bit_at, bit_not}
use Rattle.std.proofs.lemmas.List.{ext_get_or}
use Rattle.std.proofs.lemmas.Nat.Bits.{bit_at_and, bit_at_not, bit_at-lt}
use Rattle.lg_bit_set.specs.Meaning.Flags.{flags_without}
use Rattle.lg_bit_set.specs.Support.Words.{word_flags, flags_of, AreWords, length-word_flags}
use Rattle.lg_bit_set.proofs.WordFlags.{get_or-word_flags}
use Rattle.lg_bit_set.proofs.SetFlags.{four_words}

pub length-flags_without : (flags others : List Bool) → length (flags_without flags others) ≡ length flags
length-flags_without [] others = refl
length-flags_without (flag ∷ flags) [] = refl
length-flags_without (flag ∷ flags) (other ∷ others) = ap suc (length-flags_without flags others)

pub get_or-flags_without : (flags others : List Bool) (i : ℕ) → i < length flags → length flags ≡ length others
    → get_or (flags_without flags others) i false ≡ (get_or flags i false && not (get_or others i false))
get_or-flags_without [] others i within same = absurd (omega arith)
get_or-flags_without (flag ∷ flags) [] i within same = absurd (omega arith)
get_or-flags_without (flag ∷ flags) (other ∷ others) zero within same = refl
get_or-flags_without (flag ∷ flags) (other ∷ others) (suc i) within same =
    get_or-flags_without flags others i (omega arith) (omega arith)

pub flags_without-append : (flags others more rest : List Bool) → length flags ≡ length others
    → flags_without (flags ++ more) (others ++ rest) ≡ flags_without flags others ++ flags_without more rest
flags_without-append [] [] more rest same = refl
flags_without-append [] (other ∷ others) more rest same = absurd (omega arith)
flags_without-append (flag ∷ flags) [] more rest same = absurd (omega arith)
flags_without-append (flag ∷ flags) (other ∷ others) more rest same =
    ap (λ l. (flag && not other) ∷ l) (flags_without-append flags others more rest (omega arith))

both_bits : (a b : ℕ) → a < 2 → b < 2 → nat_eq (min a (1 - b)) 1 ≡ (nat_eq a 1 && not (nat_eq b 1))
both_bits zero zero p q = refl
both_bits zero (suc zero) p q = refl
both_bits (suc zero) zero p q = refl
both_bits (suc zero) (suc zero) p q = refl
both_bits (suc (suc a)) b p q = absurd (omega arith)
both_bits a (suc (suc b)) p q = absurd (omega arith)

-- the word without the bits of another
abbrev pub less : ℕ → ℕ → ℕ
less word other = bit_and word (bit_not w64 other)

less_flag : (word other i : ℕ) → other < 2 ^ 64 → i < 64
    → get_or (word_flags 64 (less word other)) i false
    ≡ get_or (flags_without (word_flags 64 word) (word_flags 64 other)) i false
less_flag word other i fits within =
    let long = length-word_flags 64 word in
    let wide = length-word_flags 64 other in
    get_or-word_flags 64 (less word other) i within
    ∙ ap (λ bit. nat_eq bit 1)
    (bit_at_and word (bit_not w64 other) i ∙ ap (λ n. min (bit_at word i) n) (bit_at_not w64 other i fits within))
    ∙ both_bits (bit_at word i) (bit_at other i) (bit_at-lt word i) (bit_at-lt other i)
    ∙ rw (
      get_or-flags_without (word_flags 64 word) (word_flags 64 other) i (omega arith) (omega arith),
      get_or-word_flags 64 word i within,
      get_or-word_flags 64 other i within,
    ) refl

less_flags : (word other : ℕ) → other < 2 ^ 64
    → word_flags 64 (less word other) ≡ flags_without (word_flags 64 word) (word_flags 64 other)
less_flags word other fits =
    let long = length-word_flags 64 (less word other) in
    ext_get_or false (word_flags 64 (less word other)) (flags_without (word_flags 64 word) (word_flags 64 other))
    (long ∙ sym (length-flags_without (word_flags 64 word) (word_flags 64 other) ∙ length-word_flags 64 word))
    (λ i within. less_flag word other i fits (omega arith))

without_more : (word other : ℕ) (words others : List ℕ) (rest : List Bool) → other < 2 ^ 64
    → rest ≡ flags_without (flags_of words) (flags_of others)
    → word_flags 64 (less word other) ++ rest ≡ flags_without (flags_of (word ∷ words)) (flags_of (other ∷ others))
unfolding flags_of
without_more word other words others rest fits e =
    rw (less_flags word other fits, e)
    (sym (flags_without-append (word_flags 64 word) (word_flags 64 other) (flags_of words) (flags_of others)
    (length-word_flags 64 word ∙ sym (length-word_flags 64 other))))

without_four : (a b c d e f g h : ℕ) → e < 2 ^ 64 → f < 2 ^ 64 → g < 2 ^ 64 → h < 2 ^ 64
    → flags_of (less a e ∷ less b f ∷ less c g ∷ less d h ∷ [])
    ≡ flags_without (flags_of (a ∷ b ∷ c ∷ d ∷ [])) (flags_of (e ∷ f ∷ g ∷ h ∷ []))
unfolding flags_of
without_four a b c d e f g h p q r s =
    without_more a e (b ∷ c ∷ d ∷ []) (f ∷ g ∷ h ∷ []) _ p
    (without_more b f (c ∷ d ∷ []) (g ∷ h ∷ []) _ q
    (without_more c g (d ∷ []) (h ∷ []) _ r (without_more d h [] [] [] s refl)))

pub without_words : (words others : List ℕ) → AreWords words → AreWords others
    → flags_of
    (less (get_or words 0 0) (get_or others 0 0) ∷ less (get_or words 1 0) (get_or others 1 0)
    ∷ less (get_or words 2 0) (get_or others 2 0) ∷ less (get_or words 3 0) (get_or others 3 0) ∷ [])
    ≡ flags_without (flags_of words) (flags_of others)
without_words words others are also =
    without_four _ _ _ _ _ _ _ _ (also.fit 0) (also.fit 1) (also.fit 2) (also.fit 3)
    ∙ ap₂ (λ (l m : List ℕ). flags_without (flags_of l) (flags_of m)) (sym (four_words words are.four))
    (sym (four_words others also.four))
