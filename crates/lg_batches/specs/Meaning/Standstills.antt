-- For how long a clock stood still between takings of entries.
use Rattle.std.specs.Prelude.{ℕ, ◌-◌, ◌≤◌, ◌==◌, if◌then◌else◌, List, [], ◌∷◌}
use Rattle.lg_batches.specs.declared.standstill.Standstill.{Standstill}

-- no entries were taken yet
abbrev pub never_taken : Standstill
never_taken = record { left_out_ms = 0; since_ms = 0 }

-- What is known once so many entries were taken, when the clock had left out so many milliseconds. If there were none,
-- it is what was known before: what the clock left out until then counts for the entries that are taken next.
abbrev pub standstill_behind : (left_out_ms entries : ℕ) → Standstill → Standstill
standstill_behind left_out_ms entries s =
    if entries == 0 then s else record { left_out_ms = left_out_ms; since_ms = left_out_ms - s.left_out_ms }

-- one taking: how many entries there were, and what the clock had left out by then, in milliseconds
pub record Taking : Type 0 where
  pub entries : ℕ
  pub left_out_ms : ℕ

-- what the first entry of each of some takings says, of those that had entries
abbrev pub standstills : Standstill → List Taking → List ℕ
standstills s [] = []
standstills s (t ∷ ts) =
    let behind = standstill_behind t.left_out_ms t.entries s in
    if t.entries == 0 then standstills behind ts else behind.since_ms ∷ standstills behind ts

-- what the clock had left out when entries were taken last
abbrev pub last_left_out : ℕ → List Taking → ℕ
last_left_out ms [] = ms
last_left_out ms (t ∷ ts) = last_left_out (if t.entries == 0 then ms else t.left_out_ms) ts

-- the clock never takes back what it left out
abbrev pub NeverTakesBack : ℕ → List Taking → Type 0
NeverTakesBack ms [] = Unit {0}
NeverTakesBack ms (t ∷ ts) = (ms ≤ t.left_out_ms) × NeverTakesBack t.left_out_ms ts
