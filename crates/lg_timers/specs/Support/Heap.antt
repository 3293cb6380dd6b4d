-- A heap of timers, told by the timer at each place.
use Rattle.std.specs.Prelude.{ℕ, zero, suc, ◌≡◌, ◌≢◌, ◌+◌, ◌-◌, ◌*◌, ◌/◌, ◌<◌, Bool, false}
use Rattle.std.specs.Ordering.{is_lt}
use Rattle.lg_timers.specs.declared.timer.Timer.{Timer}
use Rattle.lg_timers.specs.Meaning.Timers.{timer_cmp}

-- whether one timer fires before another
unfoldable pub fires_before : Timer → Timer → Bool
fires_before s t = is_lt (timer_cmp s t)

-- the place above a place
abbrev pub parent : ℕ → ℕ
parent place = (place - 1) / 2

-- the first of the places that are so many levels below those right below a place
abbrev pub leftmost : ℕ → ℕ → ℕ
leftmost zero place = 2 * place + 1
leftmost (suc levels) place = leftmost levels (2 * place + 1)

-- The timers right below a place don't fire before the one above it.
pub record IsBridged (timer : ℕ → Timer) (count place : ℕ) : Type 0 where
  pub skips : (j : ℕ) → 0 < place → parent j ≡ place → 0 < j → j < count
      → fires_before (timer j) (timer (parent place)) ≡ false

-- No timer fires before the one above it.
pub record IsHeap (timer : ℕ → Timer) (count : ℕ) : Type 0 where
  pub ordered : (j : ℕ) → 0 < j → j < count → fires_before (timer j) (timer (parent j)) ≡ false

-- The same, but the timer at one place may fire before the one above it.
pub record IsHeapAbove (timer : ℕ → Timer) (count place : ℕ) : Type 0 where
  pub ordered : (j : ℕ) → 0 < j → j < count → j ≢ place → fires_before (timer j) (timer (parent j)) ≡ false
  pub bridged : IsBridged timer count place

-- The same, but those below one place may fire before the timer there.
pub record IsHeapBelow (timer : ℕ → Timer) (count place : ℕ) : Type 0 where
  pub ordered : (j : ℕ) → 0 < j → j < count → parent j ≢ place → fires_before (timer j) (timer (parent j)) ≡ false
  pub bridged : IsBridged timer count place

-- The same, but the timer at one place may be wrong towards both sides.
pub record IsHeapAround (timer : ℕ → Timer) (count place : ℕ) : Type 0 where
  pub ordered : (j : ℕ) → 0 < j → j < count → j ≢ place → parent j ≢ place
      → fires_before (timer j) (timer (parent j)) ≡ false
  pub bridged : IsBridged timer count place

-- This place is below another one, and no timer that is also below it fires before the one here.
pub record IsFirstBelow (timer : ℕ → Timer) (count place child : ℕ) : Type 0 where
  pub below : parent child ≡ place
  pub after : 0 < child
  pub within : child < count
  pub first : (j : ℕ) → parent j ≡ place → 0 < j → j < count → j ≢ child
      → fires_before (timer j) (timer child) ≡ false
