-- The health score, which Lifeguard calls the local health multiplier (LHM; local health aware probe).
use Rattle.std.specs.Prelude.{ℕ, ℤ, pos, negsuc, ◌+ℤ◌, min, List, [], ◌∷◌}

-- a health score, and the greatest value that it may have
pub record ScoreValue : Type 0 where
  pub value : ℕ
  pub max : ℕ

-- a sum, held between 0 and the greatest score
abbrev pub held : ℕ → ℤ → ℕ
held max (pos n) = min n max
held max (negsuc n) = 0

-- the running sum of some marks, the latest first, held in that way at every mark
abbrev pub score_of : ℕ → List ℤ → ℕ
score_of max [] = 0
score_of max (mark ∷ past) = held max (pos (score_of max past) +ℤ mark)

-- a score after one more mark
abbrev pub marked : ScoreValue → ℤ → ScoreValue
marked s mark = record { value = held s.max (pos s.value +ℤ mark); max = s.max }
