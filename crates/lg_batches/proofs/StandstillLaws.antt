-- What the entries say of a clock is all that it left out.
use Rattle.std.proofs.Common.{◌≡◌, ℕ, ◌+◌, ◌-◌, ◌≤◌, Bool, true, false, cond, eqb, List, [], ◌∷◌, arith}
use Rattle.std.specs.Prelude.{sum}
use Rattle.std.proofs.lemmas.List.Sums.{sum_by-cons}
use Rattle.lg_batches.specs.declared.standstill.Standstill.{Standstill}
use Rattle.lg_batches.specs.Meaning.Standstills.{NeverTakesBack, Taking, last_left_out, never_taken, standstills}

sooner : (a b : ℕ) (ts : List Taking) → a ≤ b → NeverTakesBack b ts → NeverTakesBack a ts
sooner a b [] le steady = tt
sooner a b (t ∷ ts) le steady = (omega (arith, le, steady.0), steady.1)

abbrev taken_then : Standstill → Taking → Standstill
taken_then s t = record { left_out_ms = t.left_out_ms; since_ms = t.left_out_ms - s.left_out_ms }

from_there : (s : Standstill) (ts : List Taking) → NeverTakesBack s.left_out_ms ts → sum (standstills s ts) + s.left_out_ms ≡ last_left_out s.left_out_ms ts
from_there s [] steady = omega arith
from_there s (t ∷ ts) steady =
    decided (eqb t.entries 0) (from_there s ts (sooner s.left_out_ms t.left_out_ms ts steady.0 steady.1)) (from_there (taken_then s t) ts steady.1)
  where
    decided : (none : Bool) → sum (standstills s ts) + s.left_out_ms ≡ last_left_out s.left_out_ms ts
        → sum (standstills (taken_then s t) ts) + t.left_out_ms ≡ last_left_out t.left_out_ms ts
        → sum (cond none (standstills (cond none s (taken_then s t)) ts) ((cond none s (taken_then s t)).since_ms ∷ standstills (cond none s (taken_then s t)) ts)) + s.left_out_ms
        ≡ last_left_out (cond none s.left_out_ms t.left_out_ms) ts
    decided true before behind = before
    decided false before behind =
        let one = sum_by-cons (λ (n : ℕ). n) (t.left_out_ms - s.left_out_ms) (standstills (taken_then s t) ts) in
        omega (arith, one, behind, steady.0)

pub all_said : (ts : List Taking) → NeverTakesBack 0 ts → sum (standstills never_taken ts) ≡ last_left_out 0 ts
all_said ts steady = let all = from_there never_taken ts steady in omega (arith, all)
