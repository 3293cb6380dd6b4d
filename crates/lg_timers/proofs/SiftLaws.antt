-- What an exchange of two slots does to the heap, and what taking a slot into use or out of use does.
use Rattle.std.proofs.Common.{◌≡◌, ℕ, ◌+◌, ◌<◌, ◌≤◌, List, [], ◌∷◌, ◌++◌, length, get_or, set, take, sym, ◌∙◌, ap, subst, arith}
use Rattle.std.specs.List.{swap}
use Rattle.std.specs.List.Sorted.{IsPermutation}
use Rattle.std.proofs.lemmas.List.{take_more}
use Rattle.std.proofs.lemmas.List.Edits.{Swapped, swapped_from_swap, length-swap}
use Rattle.std.proofs.lemmas.List.Sorted.{IsPermutation-trans, IsPermutation-cons, IsPermutation-to_front}
use Rattle.lg_timers.specs.declared.timer.Timer.{Timer}
use Rattle.lg_timers.specs.Support.Heap.{IsHeap, IsHeapAround}
use Rattle.lg_timers.specs.Support.Slots.{timer_in, timer_at, ArePlaced}
use Rattle.lg_timers.proofs.HeapLaws.{apart_less, fewer_places, changed_at}
use Rattle.lg_timers.proofs.PlaceLaws.{placed-swap, swapped-is, permutation-swap}

-- two slots were written, each at the other's place
module _ (slots places ss ps ss' ps' : List ℕ) (a b : ℕ) (p : ArePlaced slots places) (within_a : a < 400) (within_b : b < 400) where
  both_slots : ss ≡ set slots a (get_or slots b 0) → ss' ≡ set ss b (get_or slots a 0) → ss' ≡ set (set slots a (get_or slots b 0)) b (get_or slots a 0)
  both_slots e f = f ∙ ap (λ xs. set xs b (get_or slots a 0)) e

  pub exchanged-swap : ss ≡ set slots a (get_or slots b 0) → ss' ≡ set ss b (get_or slots a 0) → ss' ≡ swap slots a b
  exchanged-swap e f = both_slots e f ∙ swapped-is slots places a b p within_a within_b

  pub exchanged-placed : ss ≡ set slots a (get_or slots b 0) → ss' ≡ set ss b (get_or slots a 0) → ps ≡ set places (get_or slots b 0) a → ps' ≡ set ps (get_or slots a 0) b → ArePlaced ss' ps'
  exchanged-placed e f g h =
      let told : ps' ≡ set (set places (get_or slots b 0) a) (get_or slots a 0) b = h ∙ ap (λ xs. set xs (get_or slots a 0) b) g in
      subst (λ (xs : List ℕ). ArePlaced ss' xs) (sym told) (subst (λ (xs : List ℕ). ArePlaced xs (set (set places (get_or slots b 0) a) (get_or slots a 0) b)) (sym (both_slots e f)) (placed-swap slots places a b p within_a within_b))

-- once two slots have changed their places
module _ (timers : List Timer) (slots ss : List ℕ) (n a b : ℕ) (few : n ≤ length slots) (within_a : a < n) (within_b : b < n) (swapped : ss ≡ swap slots a b) where
  pub timers-swapped : Swapped (timer_at timers slots) (timer_at timers ss) a b
  timers-swapped =
      let sw : Swapped (λ i. get_or slots i 0) (λ i. get_or ss i 0) a b = swapped_from_swap slots ss a b 0 (omega (arith, few, within_a)) (omega (arith, few, within_b)) swapped in
      (ap (timer_in timers) sw.0, ap (timer_in timers) sw.1, λ m na nb. ap (timer_in timers) (sw.2 m na nb))

  pub swap-moves : IsPermutation (take n slots) (take n ss)
  swap-moves = subst (λ (xs : List ℕ). IsPermutation (take n slots) (take n xs)) (sym swapped) (permutation-swap slots n a b few within_a within_b)

  pub swap-moved : (before : List ℕ) → IsPermutation (take n before) (take n slots) → IsPermutation (take n before) (take n ss)
  swap-moved before moved = IsPermutation-trans (take n before) (take n slots) (take n ss) moved swap-moves

-- a slot and the last one have changed their places, and the last place is given up
module _ (timers : List Timer) (slots ss : List ℕ) (n place : ℕ) (few : n + 1 ≤ length slots) (within : place < n + 1) (swapped : ss ≡ swap slots place n) (heap : IsHeap (timer_at timers slots) (n + 1)) where
  last : n < n + 1
  last = omega arith

  exchanged : Swapped (timer_at timers slots) (timer_at timers ss) place n
  exchanged = timers-swapped timers slots ss (n + 1) place n few within last swapped

  pub removed-around : place < n → IsHeapAround (timer_at timers ss) n place
  removed-around inner =
      changed_at (timer_at timers slots) (timer_at timers ss) n place (fewer_places (timer_at timers slots) n (n + 1) (omega arith) heap) inner
      (λ j jl other. exchanged.2 j other (apart_less j n jl))

  -- the slots in use are this one and the others
  pub removed-moves : IsPermutation (take (n + 1) slots) (get_or slots place 0 ∷ take n ss)
  removed-moves =
      let sw : Swapped (λ i. get_or slots i 0) (λ i. get_or ss i 0) place n = swapped_from_swap slots ss place n 0 (omega (arith, few, within)) (omega (arith, few)) swapped in
      let longer : length ss ≡ length slots = ap length swapped ∙ length-swap slots place n in
      let more : take (n + 1) ss ≡ take n ss ++ get_or slots place 0 ∷ [] = take_more ss n 0 (omega (arith, few, longer)) ∙ ap (λ s. take n ss ++ s ∷ []) sw.1 in
      IsPermutation-trans (take (n + 1) slots) (take n ss ++ get_or slots place 0 ∷ []) (get_or slots place 0 ∷ take n ss)
      (subst (λ (xs : List ℕ). IsPermutation (take (n + 1) slots) xs) more (swap-moves timers slots ss (n + 1) place n few within last swapped))
      (IsPermutation-to_front (take n ss) (get_or slots place 0))

  -- and so they are, once the others are in another order
  pub removed-all : (count k slot : ℕ) (ts : List ℕ) → n + 1 ≡ count → k ≡ n → get_or slots place 0 ≡ slot → IsPermutation (take n ss) (take n ts) → IsPermutation (take count slots) (slot ∷ take k ts)
  removed-all count k slot ts more same is moved =
      let all : IsPermutation (take (n + 1) slots) (get_or slots place 0 ∷ take n ts) = IsPermutation-trans (take (n + 1) slots) (get_or slots place 0 ∷ take n ss) (get_or slots place 0 ∷ take n ts) removed-moves (IsPermutation-cons (get_or slots place 0) (take n ss) (take n ts) moved) in
      subst (λ (m : ℕ). IsPermutation (take m slots) (slot ∷ take k ts)) more
      (subst (λ (m : ℕ). IsPermutation (take (n + 1) slots) (slot ∷ take m ts)) (sym same)
      (subst (λ (s : ℕ). IsPermutation (take (n + 1) slots) (s ∷ take n ts)) is all))
