-- Lists of one length differ in no bit exactly if they are the same.
use Rattle.std.proofs.Common.{◌≡◌, ℕ, ◌+◌, ◌%◌, ◌<◌, List, [], ◌∷◌, length, refl, sym, ap, ◌∙◌, arith}
use Rattle.std.specs.Prelude.{◌↔◌, bit_or, bit_xor, fold}
use Rattle.std.specs.Int.{bit_at}
use Rattle.std.specs.List.{zip}
use Rattle.std.proofs.lemmas.Nat.Bits.{bit_at-zero, bit_at_or, bit_at_xor, bit_at-lt, same_from_bits}
use Rattle.lg_seal.specs.Support.Differing.{differing_bits}

-- the `or` of two numbers is 0 only where both are, and their `xor` only where they are the same
left_of_or : (a b : ℕ) → bit_or a b ≡ 0 → a ≡ 0
left_of_or a b none = same_from_bits a 0 (λ i.
    let no_bit : bit_at (bit_or a b) i ≡ bit_at 0 i = ap (λ n. bit_at n i) none in
    omega (arith, no_bit, bit_at_or a b i, bit_at-zero i))

right_of_or : (a b : ℕ) → bit_or a b ≡ 0 → b ≡ 0
right_of_or a b none = same_from_bits b 0 (λ i.
    let no_bit : bit_at (bit_or a b) i ≡ bit_at 0 i = ap (λ n. bit_at n i) none in
    omega (arith, no_bit, bit_at_or a b i, bit_at-zero i))

sum_of_bits : (x y : ℕ) → x < 2 → y < 2 → (x + y) % 2 ≡ 0 → x ≡ y
sum_of_bits x y xs ys even = omega arith

same_by_xor : (a b : ℕ) → bit_xor a b ≡ 0 → a ≡ b
same_by_xor a b none = same_from_bits a b (λ i.
    let no_bit : bit_at (bit_xor a b) i ≡ bit_at 0 i = ap (λ n. bit_at n i) none in
    sum_of_bits (bit_at a i) (bit_at b i) (bit_at-lt a i) (bit_at-lt b i)
    (sym (bit_at_xor a b i) ∙ no_bit ∙ bit_at-zero i))

xor_same : (a : ℕ) → bit_xor a a ≡ 0
xor_same a = same_from_bits (bit_xor a a) 0 (λ i. omega (arith, bit_at_xor a a i, bit_at-zero i))

-- ---- the bits of all places, onto those found before

abbrev bits_from : ℕ → List ℕ → List ℕ → ℕ
bits_from bits xs ys = fold (λ bits p. bit_or bits (bit_xor p.0 p.1)) bits (zip xs ys)

none_from : (bits : ℕ) (xs ys : List ℕ) → bits_from bits xs ys ≡ 0 → bits ≡ 0
none_from bits [] ys none = none
none_from bits (x ∷ xs) [] none = none
none_from bits (x ∷ xs) (y ∷ ys) none = left_of_or bits (bit_xor x y) (none_from (bit_or bits (bit_xor x y)) xs ys none)

same_from : (bits : ℕ) (xs ys : List ℕ) → length xs ≡ length ys → bits_from bits xs ys ≡ 0 → xs ≡ ys
same_from bits [] [] long none = refl
same_from bits [] (y ∷ ys) long none = absurd (omega arith)
same_from bits (x ∷ xs) [] long none = absurd (omega arith)
same_from bits (x ∷ xs) (y ∷ ys) long none =
    let here = right_of_or bits (bit_xor x y) (none_from (bit_or bits (bit_xor x y)) xs ys none) in
    let rest = same_from (bit_or bits (bit_xor x y)) xs ys (omega arith) none in
    rw (same_by_xor x y here, rest) refl

none_of_same : (xs : List ℕ) → bits_from 0 xs xs ≡ 0
none_of_same [] = refl
none_of_same (x ∷ xs) = ap (λ bits. bits_from bits xs xs) (xor_same x) ∙ none_of_same xs

pub none_differs : (xs ys : List ℕ) → length xs ≡ length ys → differing_bits xs ys ≡ 0 ↔ (xs ≡ ys)
none_differs xs ys long = (same_from 0 xs ys long, λ same. rw same (none_of_same ys))
