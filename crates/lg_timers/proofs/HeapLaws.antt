-- A heap of timers, and what a step of moving one up or down does.
use Rattle.std.proofs.Common.{◌≡◌, ◌≢◌, ℕ, zero, suc, ◌+◌, ◌*◌, ◌<◌, ◌≤◌, Bool, true, false, eqb, refl, sym, ◌∙◌, ap, arith}
use Rattle.std.proofs.lemmas.Bool.{eqb-true, eqb-false}
use Rattle.std.proofs.lemmas.List.Edits.{Swapped}
use Rattle.std.proofs.lemmas.List.Sorted.{ranks_by}
use Rattle.std.specs.Cmp.{IsStrictWeakOrder}
use Rattle.std.specs.Ordering.{is_lt}
use Rattle.lg_rules.proofs.KeyOrder.{names_order}
use Rattle.lg_timers.specs.declared.timer.Timer.{Timer}
use Rattle.lg_timers.specs.Meaning.Timers.{timer_key, timer_cmp}
use Rattle.lg_timers.specs.Support.Heap.{fires_before, parent, IsHeap, IsHeapAbove, IsHeapBelow, IsHeapAround, IsFirstBelow}

-- two numbers are the same or not
pub same_or : {P : Type 0} (a b : ℕ) → (a ≡ b → P) → (a ≢ b → P) → P
same_or {P} a b same other = go (eqb a b) refl
  where
    go : (v : Bool) → eqb a b ≡ v → P
    go true e = same (eqb-true a b e)
    go false e = other (eqb-false a b e)

pub apart_less : (a b : ℕ) → a < b → a ≢ b
apart_less a b l e = absurd (omega (arith, l, e))

pub apart_more : (a b : ℕ) → b < a → a ≢ b
apart_more a b l e = absurd (omega (arith, l, e))

pub above_zero : (a : ℕ) → a ≢ 0 → 0 < a
above_zero zero h = absurd (h refl)
above_zero (suc a) h = omega arith

-- the order in which timers fire
order : IsStrictWeakOrder fires_before
unfolding fires_before
order = ranks_by names_order.total timer_key

pub never_self : (s : Timer) → fires_before s s ≡ false
never_self s = go (fires_before s s) refl
  where
    go : (v : Bool) → fires_before s s ≡ v → fires_before s s ≡ false
    go true e = order.one_way s s e
    go false e = e

pub chained : (s t u : Timer) → fires_before s t ≡ false → fires_before t u ≡ false → fires_before s u ≡ false
chained s t u p q = order.chain s t u p q

pub turned_back : (s t : Timer) → fires_before s t ≡ true → fires_before t s ≡ false
turned_back s t e = order.one_way s t e

-- what is so of some timers is so of the same timers
pub along : (s t u v : Timer) → s ≡ u → t ≡ v → fires_before u v ≡ false → fires_before s t ≡ false
along s t u v p q h = rw (p, q) h

-- no timer of a heap fires before the first
pub heap_top : (f : ℕ → Timer) (n : ℕ) → IsHeap f n → (fuel i : ℕ) → i ≤ fuel → i < n → fires_before (f i) (f 0) ≡ false
heap_top f n h zero i few within = let first : i ≡ 0 = omega arith in along (f i) (f 0) (f 0) (f 0) (ap f first) refl (never_self (f 0))
heap_top f n h (suc fuel) i few within = same_or i 0
    (λ first. along (f i) (f 0) (f 0) (f 0) (ap f first) refl (never_self (f 0)))
    (λ later.
    let pos : 0 < i = above_zero i later in
    chained (f i) (f (parent i)) (f 0) (h.ordered i pos within) (heap_top f n h fuel (parent i) (omega arith) (omega arith)))

-- a timer that doesn't fire before the one above it is in its place
pub up_done : (f : ℕ → Timer) (n place : ℕ) → IsHeapAbove f n place → (0 < place → fires_before (f place) (f (parent place)) ≡ false) → IsHeap f n
up_done f n place e last = record { ordered = ordered }
  where
    ordered : (j : ℕ) → 0 < j → j < n → fires_before (f j) (f (parent j)) ≡ false
    ordered j pos within = same_or j place
        (λ here. along (f j) (f (parent j)) (f place) (f (parent place)) (ap f here) (ap (λ i. f (parent i)) here) (last (omega arith)))
        (λ other. e.ordered j pos within other)

-- so is a timer before which none below it fires
pub down_done : (f : ℕ → Timer) (n place : ℕ) → IsHeapBelow f n place → ((j : ℕ) → parent j ≡ place → 0 < j → j < n → fires_before (f j) (f place) ≡ false) → IsHeap f n
down_done f n place e below = record { ordered = ordered }
  where
    ordered : (j : ℕ) → 0 < j → j < n → fires_before (f j) (f (parent j)) ≡ false
    ordered j pos within = same_or (parent j) place
        (λ under. along (f j) (f (parent j)) (f j) (f place) refl (ap f under) (below j under pos within))
        (λ other. e.ordered j pos within other)

-- a timer that fires before the one above it fires before those below it
pub settle_up : (f : ℕ → Timer) (n place : ℕ) → IsHeapAround f n place → 0 < place → fires_before (f place) (f (parent place)) ≡ true → IsHeapAbove f n place
settle_up f n place e pos before = record { ordered = ordered; bridged = e.bridged }
  where
    ordered : (j : ℕ) → 0 < j → j < n → j ≢ place → fires_before (f j) (f (parent j)) ≡ false
    ordered j jp jl other = same_or (parent j) place
        (λ under. along (f j) (f (parent j)) (f j) (f place) refl (ap f under)
        (chained (f j) (f (parent place)) (f place) (e.bridged.skips j pos under jp jl) (turned_back (f place) (f (parent place)) before)))
        (λ apart. e.ordered j jp jl other apart)

-- fewer places
pub fewer_places : (f : ℕ → Timer) (m n : ℕ) → m ≤ n → IsHeap f n → IsHeap f m
fewer_places f m n few h = record { ordered = λ j jp jl. h.ordered j jp (omega arith) }

-- the same timers at the places in use
pub same_heap : (f g : ℕ → Timer) (n : ℕ) → IsHeap f n → ((j : ℕ) → j < n → g j ≡ f j) → IsHeap g n
same_heap f g n h same = record { ordered = ordered }
  where
    ordered : (j : ℕ) → 0 < j → j < n → fires_before (g j) (g (parent j)) ≡ false
    ordered j jp jl = along (g j) (g (parent j)) (f j) (f (parent j)) (same j jl) (same (parent j) (omega arith)) (h.ordered j jp jl)

-- another timer at one place
pub changed_at : (f g : ℕ → Timer) (n place : ℕ) → IsHeap f n → place < n → ((j : ℕ) → j < n → j ≢ place → g j ≡ f j) → IsHeapAround g n place
changed_at f g n place h within same = record { ordered = ordered; bridged = record { skips = bridged } }
  where
    ordered : (j : ℕ) → 0 < j → j < n → j ≢ place → parent j ≢ place → fires_before (g j) (g (parent j)) ≡ false
    ordered j jp jl other apart = along (g j) (g (parent j)) (f j) (f (parent j)) (same j jl other) (same (parent j) (omega arith) apart) (h.ordered j jp jl)

    bridged : (j : ℕ) → 0 < place → parent j ≡ place → 0 < j → j < n → fires_before (g j) (g (parent place)) ≡ false
    bridged j pos under jp jl =
        let lower : place < j = omega arith in
        let upper : parent place < place = omega arith in
        let edge : fires_before (f j) (f place) ≡ false = along (f j) (f place) (f j) (f (parent j)) refl (ap f (sym under)) (h.ordered j jp jl) in
        along (g j) (g (parent place)) (f j) (f (parent place)) (same j jl (apart_more j place lower)) (same (parent place) (omega arith) (apart_less (parent place) place upper))
        (chained (f j) (f place) (f (parent place)) edge (h.ordered place pos within))

-- a timer that fires before the one above it changes its place with that one
module _ (f g : ℕ → Timer) (n place : ℕ) (sw : Swapped f g (parent place) place) (pos : 0 < place) (within : place < n) (e : IsHeapAbove f n place) (before : fires_before (f place) (f (parent place)) ≡ true) where
  -- one beside it, or below what is above it
  beside : (j : ℕ) → parent j ≡ parent place → 0 < j → j < n → j ≢ place → fires_before (f j) (f (parent place)) ≡ false
  beside j under jp jl other = along (f j) (f (parent place)) (f j) (f (parent j)) refl (ap f (sym under)) (e.ordered j jp jl other)

  up_ordered : (j : ℕ) → 0 < j → j < n → j ≢ parent place → fires_before (g j) (g (parent j)) ≡ false
  up_ordered j jp jl jn = same_or j place
      (λ here. along (g j) (g (parent j)) (f (parent place)) (f place) (ap g here ∙ sw.1) (ap (λ i. g (parent i)) here ∙ sw.0) (turned_back (f place) (f (parent place)) before))
      (λ other. same_or (parent j) (parent place)
      (λ under. along (g j) (g (parent j)) (f j) (f place) (sw.2 j jn other) (ap g under ∙ sw.0)
      (chained (f j) (f (parent place)) (f place) (beside j under jp jl other) (turned_back (f place) (f (parent place)) before)))
      (λ apart. same_or (parent j) place
      (λ child. along (g j) (g (parent j)) (f j) (f (parent place)) (sw.2 j jn other) (ap g child ∙ sw.1) (e.bridged.skips j pos child jp jl))
      (λ far. along (g j) (g (parent j)) (f j) (f (parent j)) (sw.2 j jn other) (sw.2 (parent j) apart far) (e.ordered j jp jl other))))

  up_bridged : (j : ℕ) → 0 < parent place → parent j ≡ parent place → 0 < j → j < n → fires_before (g j) (g (parent (parent place))) ≡ false
  up_bridged j pp under jp jl =
      let lower : parent place < j = omega (arith, under) in
      let less : parent place < place = omega arith in
      let up : parent (parent place) < parent place = omega arith in
      let far : parent (parent place) < place = omega arith in
      let top : g (parent (parent place)) ≡ f (parent (parent place)) = sw.2 (parent (parent place)) (apart_less (parent (parent place)) (parent place) up) (apart_less (parent (parent place)) place far) in
      let first : fires_before (f (parent place)) (f (parent (parent place))) ≡ false = e.ordered (parent place) pp (omega arith) (apart_less (parent place) place less) in
      same_or j place
      (λ here. along (g j) (g (parent (parent place))) (f (parent place)) (f (parent (parent place))) (ap g here ∙ sw.1) top first)
      (λ other. along (g j) (g (parent (parent place))) (f j) (f (parent (parent place))) (sw.2 j (apart_more j (parent place) lower) other) top
      (chained (f j) (f (parent place)) (f (parent (parent place))) (beside j under jp jl other) first))

  pub up_step : IsHeapAbove g n (parent place)
  up_step = record { ordered = up_ordered; bridged = record { skips = up_bridged } }

-- the first of those below a timer, which fires before it, changes its place with it
module _ (f g : ℕ → Timer) (n place child : ℕ) (sw : Swapped f g place child) (first : IsFirstBelow f n place child) (e : IsHeapBelow f n place) (before : fires_before (f child) (f place) ≡ true) where
  less : place < child
  less = omega (arith, first.below, first.after)

  down_ordered : (j : ℕ) → 0 < j → j < n → parent j ≢ child → fires_before (g j) (g (parent j)) ≡ false
  down_ordered j jp jl apart = same_or j child
      (λ here. along (g j) (g (parent j)) (f place) (f child) (ap g here ∙ sw.1) (ap (λ i. g (parent i)) here ∙ (ap g first.below ∙ sw.0)) (turned_back (f child) (f place) before))
      (λ other. same_or j place
      (λ top.
      let pos : 0 < place = omega arith in
      let up : parent place < place = omega arith in
      let upper : g (parent place) ≡ f (parent place) = sw.2 (parent place) (apart_less (parent place) place up) (apart_less (parent place) child (omega (arith, less))) in
      along (g j) (g (parent j)) (f child) (f (parent place)) (ap g top ∙ sw.0) (ap (λ i. g (parent i)) top ∙ upper) (e.bridged.skips child pos first.below first.after first.within))
      (λ far. same_or (parent j) place
      (λ under. along (g j) (g (parent j)) (f j) (f child) (sw.2 j far other) (ap g under ∙ sw.0) (first.first j under jp jl other))
      (λ away. along (g j) (g (parent j)) (f j) (f (parent j)) (sw.2 j far other) (sw.2 (parent j) away apart) (e.ordered j jp jl away))))

  down_bridged : (j : ℕ) → 0 < child → parent j ≡ child → 0 < j → j < n → fires_before (g j) (g (parent child)) ≡ false
  down_bridged j pos under jp jl =
      let lower : child < j = omega (arith, under) in
      let away : parent j ≢ place = λ k. apart_less place child less (sym k ∙ under) in
      along (g j) (g (parent child)) (f j) (f child) (sw.2 j (apart_more j place (omega (arith, less))) (apart_more j child lower)) (ap g first.below ∙ sw.0)
      (along (f j) (f child) (f j) (f (parent j)) refl (ap f (sym under)) (e.ordered j jp jl away))

  pub down_step : IsHeapBelow g n child
  down_step = record { ordered = down_ordered; bridged = record { skips = down_bridged } }

-- where the first of those below doesn't fire before the timer, none of them does
pub none_below : (f : ℕ → Timer) (n place child : ℕ) → IsFirstBelow f n place child → fires_before (f child) (f place) ≡ false → (j : ℕ) → parent j ≡ place → 0 < j → j < n → fires_before (f j) (f place) ≡ false
none_below f n place child first late j under jp jl = same_or j child
    (λ here. along (f j) (f place) (f child) (f place) (ap f here) refl late)
    (λ other. chained (f j) (f child) (f place) (first.first j under jp jl other) late)

-- at the end of the places nothing is below
pub nothing_below : (n place j : ℕ) → n ≤ 2 * place + 1 → parent j ≡ place → 0 < j → j < n → ⊥
nothing_below n place j few under jp jl = omega (arith, few, under, jp, jl)

-- of two places below a place
left_one : (place j : ℕ) → parent j ≡ place → 0 < j → j ≢ 2 * place + 2 → j ≡ 2 * place + 1
left_one place j under jp other = same_or j (2 * place + 1) (λ e. e) (λ no. absurd (omega (arith, under, jp, other, no)))

pub first_right : (f : ℕ → Timer) (n place right : ℕ) → right ≡ 2 * place + 2 → right < n → fires_before (f right) (f (2 * place + 1)) ≡ true → IsFirstBelow f n place right
first_right f n place right is within before =
    record {
      below = omega (arith, is);
      after = omega (arith, is);
      within = within;
      first = λ j under jp jl other. along (f j) (f right) (f (2 * place + 1)) (f right) (ap f (left_one place j under jp (λ e. other (e ∙ sym is)))) refl (turned_back (f right) (f (2 * place + 1)) before);
    }

-- what a comparison of two timers says
pub fires_alike : (b : Bool) (s t u v : Timer) → b ≡ is_lt (timer_cmp s t) → u ≡ s → v ≡ t → b ≡ fires_before u v
unfolding fires_before
fires_alike b s t u v e p q = e ∙ sym (λ i. is_lt (timer_cmp (p i) (q i)))
