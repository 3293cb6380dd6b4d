-- Worked rows: for how long a clock stood still between takings of entries.
use Rattle.std.specs.Prelude.{◌≡◌, ℕ, [], ◌∷◌, refl}
use Rattle.lg_batches.specs.Meaning.Standstills.{Taking, never_taken, standstills, last_left_out}

abbrev taking : (entries left_out_ms : ℕ) → Taking
taking entries left_out_ms = record { entries = entries; left_out_ms = left_out_ms }

-- Two entries are taken when the clock has left out 100 ms: all of that is theirs. None are there when it has left out
-- 150, and one is when it has left out 180: that one has the 80 since the first two.
none_between : standstills never_taken (taking 2 100 ∷ taking 0 150 ∷ taking 1 180 ∷ []) ≡ 100 ∷ 80 ∷ []
none_between = refl

in_all : last_left_out 0 (taking 2 100 ∷ taking 0 150 ∷ taking 1 180 ∷ []) ≡ 180
in_all = refl

-- the clock didn't stand still, and stood still until a taking without entries
went_on : standstills never_taken (taking 2 100 ∷ taking 3 100 ∷ taking 0 150 ∷ []) ≡ 100 ∷ 0 ∷ []
went_on = refl

not_said : last_left_out 0 (taking 2 100 ∷ taking 3 100 ∷ taking 0 150 ∷ []) ≡ 100
not_said = refl
