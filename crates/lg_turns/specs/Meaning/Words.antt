-- The random words of the seeded generator, PCG32.
use Rattle.std.specs.Prelude.{◌≡◌, ℕ, List, [], ◌∷◌, length}
use Rattle.rand_core.specs.Pcg32Seed.{pcg32_seed}
use Rattle.rand_pcg.specs.Lcg.{Lcg}
use Rattle.rand_pcg.specs.Pcg.{pcg32, pcg32_of_seed}

-- the generator that a number seeds: PCG32 expands it to the 16 bytes of a seed
abbrev pub seeded : ℕ → Lcg
seeded dice = pcg32_of_seed (pcg32_seed 16 dice)

-- these words are the generator's next ones, in order, and then it is in the other state
abbrev pub Draws : Lcg → List ℕ → Lcg → Type 0
Draws g [] h = h ≡ g
Draws g (word ∷ words) h = (word ≡ (pcg32 g).0) × Draws (pcg32 g).1 words h

-- the next eight
abbrev pub DrawsEight : Lcg → List ℕ → Lcg → Type 0
DrawsEight g words h = (length words ≡ 8) × Draws g words h
