-- Bytes read as big-endian numbers.
use Rattle.std.specs.Prelude.{ℕ, zero, suc, ◌+◌, ◌*◌, List, [], ◌∷◌, take, drop}

-- the number whose digits to the base 256 are those of n, followed by these bytes
abbrev pub number_behind : ℕ → List ℕ → ℕ
number_behind n [] = n
number_behind n (b ∷ bs) = number_behind (n * 256 + b) bs

-- the first n words of some bytes, eight bytes each
abbrev pub words_of : ℕ → List ℕ → List ℕ
words_of zero bytes = []
words_of (suc n) bytes = number_behind 0 (take 8 bytes) ∷ words_of n (drop 8 bytes)
