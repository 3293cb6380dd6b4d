-- Which ends of rounds are kept.
use Rattle.std.specs.Prelude.{◌≡◌, ℕ, ◌≤◌, List}
use Rattle.lg_explain.specs.Meaning.Rounds.{recent_rounds}
use Rattle.lg_explain.specs.declared.rounds.RoundEnd.{RoundEnd}

-- The ends of rounds that are kept count as all of them do, from this moment on.
abbrev pub KeepsEnds : List RoundEnd → ℕ → List RoundEnd → Type 0
KeepsEnds kept greatest all = (now : ℕ) → greatest ≤ now → recent_rounds now kept ≡ recent_rounds now all
