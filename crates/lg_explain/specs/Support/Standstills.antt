-- Which of the times at which the clock stood still are kept.
use Rattle.std.specs.Prelude.{◌≡◌, ℕ, ◌≤◌, List}
use Rattle.std.specs.List.{sum_by}
use Rattle.lg_explain.specs.Meaning.Standstills.{recent_stood}
use Rattle.lg_explain.specs.declared.standstills.StoodStill.{StoodStill}

-- Those that are kept make up as much as all of them do, from this moment on.
abbrev pub KeepsStood : List StoodStill → ℕ → List StoodStill → Type 0
KeepsStood kept greatest all =
    (now : ℕ) → greatest ≤ now → sum_by (recent_stood now) kept ≡ sum_by (recent_stood now) all
