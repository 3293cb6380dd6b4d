-- Words of the generator, one after another.
use Rattle.std.proofs.Common.{◌≡◌, ℕ, List, ◌∷◌, ap, subst}
use Rattle.rand_pcg.specs.Lcg.{Lcg}
use Rattle.rand_pcg.specs.Pcg.{pcg32}
use Rattle.lg_turns.specs.Meaning.Words.{Draws}

pub drawn : (g : Lcg) (word : ℕ) (h : Lcg) (words : List ℕ) (k : Lcg) → (word, h) ≡ pcg32 g → Draws h words k → Draws g (word ∷ words) k
drawn g word h words k is rest = (ap (λ (x : ℕ × Lcg). x.0) is, subst (λ (l : Lcg). Draws l words k) (ap (λ (x : ℕ × Lcg). x.1) is) rest)
