-- The logarithms and the quotients of logarithms that suspicion timeouts use, in thousandths.
use Rattle.std.specs.Prelude.{ℕ, ◌≤◌, ◌^◌, List, [], ◌∷◌, nat_le}
use Rattle.std.specs.Prelude.{if◌then◌else◌, slice_index, slice_index_or}
use Rattle.lg_timing.specs.Meaning.Bounds.{most_live}

-- the logarithm of a number to a base, in thousandths rounded down: the greatest t for which base ^ (t / 1000) <=
-- number, that is, base ^ t <= number ^ 1000
pub record IsLog (base number t : ℕ) : Type 0 where
  pub reached : base ^ t ≤ number ^ 1000
  pub greatest : (s : ℕ) → base ^ s ≤ number ^ 1000 → s ≤ t

-- the greatest number of the range that n live members are in (the ranges are this project's choice)
abbrev pub range_end : ℕ → ℕ
range_end n =
    if nat_le n 10 then 10 else if nat_le n 16 then 16 else if nat_le n 32 then 32
    else if nat_le n 64 then 64 else if nat_le n 128 then 128 else most_live

-- its base-ten logarithm
unfoldable pub log10_of : ℕ → ℕ
log10_of n =
    if nat_le n 10 then 1000 else if nat_le n 16 then 1204 else if nat_le n 32 then 1505
    else if nat_le n 64 then 1806 else if nat_le n 128 then 2107 else 2408

-- For k confirmations that count, a row of the quotients log (c + 1) / log (k + 1) for c from 0 to k. The row for a k
-- of 0 is this project's choice.
abbrev pub ratios : List (List ℕ)
ratios =
    (1000 ∷ 0 ∷ 0 ∷ 0 ∷ 0 ∷ 0 ∷ [])
    ∷ (0 ∷ 1000 ∷ 0 ∷ 0 ∷ 0 ∷ 0 ∷ [])
    ∷ (0 ∷ 630 ∷ 1000 ∷ 0 ∷ 0 ∷ 0 ∷ [])
    ∷ (0 ∷ 500 ∷ 792 ∷ 1000 ∷ 0 ∷ 0 ∷ [])
    ∷ (0 ∷ 430 ∷ 682 ∷ 861 ∷ 1000 ∷ 0 ∷ [])
    ∷ (0 ∷ 386 ∷ 613 ∷ 773 ∷ 898 ∷ 1000 ∷ [])
    ∷ []

-- the quotient for c of k confirmations
unfoldable pub ratio_of : ℕ → ℕ → ℕ
ratio_of k c = slice_index (slice_index_or ratios k []) c
