-- Where two lists of bytes differ.
use Rattle.std.specs.Prelude.{ℕ, List, fold, bit_or, bit_xor}
use Rattle.std.specs.List.{zip}

-- the bits in which they differ at any place
abbrev pub differing_bits : List ℕ → List ℕ → ℕ
differing_bits xs ys = fold (λ bits p. bit_or bits (bit_xor p.0 p.1)) 0 (zip xs ys)
