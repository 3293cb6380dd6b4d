-- A key that is filled up, byte by byte.
use Rattle.std.proofs.Common.{◌≡◌, ℕ, ◌-◌, ◌<◌, ◌≤◌, zero, suc, List, [], ◌∷◌, ◌++◌, length, take, set, map}
use Rattle.std.proofs.Common.{replicate, get_or, refl, sym, ap, arith, take_all}
use Rattle.std.specs.Prelude.{bit_xor}
use Rattle.std.specs.Int.Bits.{xor_zero_l}
use Rattle.std.proofs.lemmas.List.{map-append}
use Rattle.lg_seal.specs.Meaning.Tags.{padded_key}

-- the first bytes of a key under a pad, and then the pad, up to `room` bytes
abbrev pub partly_padded : ℕ → ℕ → List ℕ → ℕ → List ℕ
partly_padded room pad key place = map (λ b. bit_xor b pad) (take place key) ++ replicate (room - place) pad

-- one byte more
pub padded_more : (room pad : ℕ) (key : List ℕ) (place : ℕ) → place < length key → length key ≤ room
    → set (partly_padded room pad key place) place (bit_xor (get_or key place 0) pad)
    ≡ partly_padded room pad key (suc place)
padded_more zero pad [] place here long = absurd (omega arith)
padded_more zero pad (b ∷ key) place here long = absurd (omega arith)
padded_more (suc room) pad [] place here long = absurd (omega arith)
padded_more (suc room) pad (b ∷ key) zero here long =
    let all : suc room - 0 ≡ suc room = omega arith in
    let rest : suc room - 1 ≡ room = omega arith in
    rw (all, rest) refl
padded_more (suc room) pad (b ∷ key) (suc place) here long =
    let left : suc room - suc place ≡ room - place = omega arith in
    let rest : suc room - suc (suc place) ≡ room - suc place = omega arith in
    rw (left, rest) (ap (λ bs. bit_xor b pad ∷ bs) (padded_more room pad key place (omega arith) (omega arith)))

zeros_padded : (pad n : ℕ) → replicate n pad ≡ map (λ b. bit_xor b pad) (replicate n 0)
zeros_padded pad zero = refl
zeros_padded pad (suc n) = rw (xor_zero_l pad) (ap (λ bs. pad ∷ bs) (zeros_padded pad n))

-- all of it
pub padded_whole : (pad : ℕ) (key : List ℕ) → partly_padded 64 pad key (length key) ≡ padded_key pad key
unfolding padded_key
padded_whole pad key =
    rw (take_all (length key) key (omega arith), zeros_padded pad (64 - length key))
    (sym (map-append (λ b. bit_xor b pad) key (replicate (64 - length key) 0)))
