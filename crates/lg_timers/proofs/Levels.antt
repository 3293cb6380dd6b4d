-- How many levels a heap has: how often a timer may move up or down.
use Rattle.std.proofs.Common.{◌≡◌, ℕ, zero, suc, ◌+◌, ◌*◌, ◌<◌, ◌≤◌, refl, arith}
use Rattle.lg_timers.specs.Support.Heap.{parent, leftmost}

leftmost-le : (levels p q : ℕ) → p ≤ q → leftmost levels p ≤ leftmost levels q
leftmost-le zero p q l = omega arith
leftmost-le (suc levels) p q l = leftmost-le levels (2 * p + 1) (2 * q + 1) (omega arith)

leftmost-suc : (levels p : ℕ) → leftmost (suc levels) p ≡ 2 * leftmost levels p + 1
leftmost-suc zero p = refl
leftmost-suc (suc levels) p = leftmost-suc levels (2 * p + 1)

-- a place within so many levels of the first
pub record IsWithin (levels place : ℕ) : Type 0 where
  pub within : place < leftmost levels 0

-- so many levels below a place end a heap
pub record EndsWithin (levels place count : ℕ) : Type 0 where
  pub ends : count ≤ leftmost levels place

pub start_up : (place : ℕ) → place < 400 → IsWithin 8 place
start_up place few = record { within = omega arith }

pub start_down : (place count : ℕ) → count ≤ 400 → EndsWithin 8 place count
start_down place count few = record { ends = omega (arith, leftmost-le 8 0 place (omega arith)) }

-- one level fewer
abbrev pub OneUp : ℕ → ℕ → Type 0
OneUp levels place = (fewer : ℕ) × (levels ≡ suc fewer) × IsWithin fewer (parent place)

pub one_up : (levels place : ℕ) → 0 < place → IsWithin levels place → OneUp levels place
one_up zero place pos w = absurd (omega (arith, w.within))
one_up (suc fewer) place pos w = (fewer, refl, record { within = omega (arith, w.within, leftmost-suc fewer 0) })

abbrev pub OneDown : ℕ → ℕ → ℕ → Type 0
OneDown levels child count = (fewer : ℕ) × (levels ≡ suc fewer) × EndsWithin fewer child count

pub one_down : (levels place child count : ℕ) → 2 * place + 1 < count → parent child ≡ place → 0 < child → EndsWithin levels place count → OneDown levels child count
one_down zero place child count more below after e = absurd (omega (arith, e.ends))
one_down (suc fewer) place child count more below after e =
    (fewer, refl, record { ends = omega (arith, e.ends, leftmost-le fewer (2 * place + 1) child (omega (arith, below, after))) })
