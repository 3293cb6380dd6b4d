-- The slots in some order, and the place of each: two of them change their places, and the first ones are in use.
use Rattle.std.proofs.Common.{◌≡◌, ◌≢◌, ℕ, suc, ◌<◌, ◌≤◌, Bool, true, false, cond, eqb, List, [], ◌∷◌, length, get_or, set, take, remove, refl, sym, ◌∙◌, ap, arith}
use Rattle.std.specs.List.{swap, Contains, sum_by}
use Rattle.std.specs.List.Sorted.{IsPermutation}
use Rattle.std.proofs.lemmas.Bool.{eq-eqb, eqb-true}
use Rattle.std.proofs.lemmas.List.{get_or_default, get_or-set_same, get_or-set_other, get_or-take, length-set, length-take-le, same_lists}
use Rattle.std.proofs.lemmas.List.Edits.{Swapped, swapped_from_swap, swap_is, length-swap}
use Rattle.std.proofs.lemmas.List.Sums.{sum_by-cons}
use Rattle.std.proofs.lemmas.List.Sorted.{IsPermutation-refl, IsPermutation-sym, IsPermutation-trans, IsPermutation-cons, IsPermutation-swap, IsPermutation-remove, sum_by-IsPermutation}
use Rattle.lg_timers.specs.Support.Slots.{ArePlaced}
use Rattle.lg_timers.proofs.HeapLaws.{same_or}

-- two slots change their places
module _ (slots places : List ℕ) (a b : ℕ) (p : ArePlaced slots places) (within_a : a < 400) (within_b : b < 400) where
  abbrev one : ℕ
  one = get_or slots a 0

  abbrev other : ℕ
  other = get_or slots b 0

  abbrev swapped : List ℕ
  swapped = set (set slots a other) b one

  abbrev told_again : List ℕ
  told_again = set (set places other a) one b

  -- the slots differ where the places do
  apart_slots : (i j : ℕ) → i < 400 → j < 400 → i ≢ j → get_or slots i 0 ≢ get_or slots j 0
  apart_slots i j wi wj ne same = ne (sym (p.told i wi) ∙ ap (λ s. get_or places s 0) same ∙ p.told j wj)

  at_b : get_or swapped b 0 ≡ one
  at_b = get_or-set_same (set slots a other) b one 0 (omega (arith, length-set slots a other, p.long))

  at_a : a ≢ b → get_or swapped a 0 ≡ other
  at_a ne = get_or-set_other (set slots a other) b a one 0 ne ∙ get_or-set_same slots a other 0 (omega (arith, p.long))

  elsewhere : (i : ℕ) → i ≢ a → i ≢ b → get_or swapped i 0 ≡ get_or slots i 0
  elsewhere i na nb = get_or-set_other (set slots a other) b i one 0 nb ∙ get_or-set_other slots a i other 0 na

  place_one : get_or told_again one 0 ≡ b
  place_one = get_or-set_same (set places other a) one b 0 (omega (arith, length-set places other a, p.wide, p.within a within_a))

  place_other : a ≢ b → get_or told_again other 0 ≡ a
  place_other ne =
      get_or-set_other (set places other a) one other b 0 (apart_slots b a within_b within_a (λ e. ne (sym e)))
      ∙ get_or-set_same places other a 0 (omega (arith, p.wide, p.within b within_b))

  place_elsewhere : (i : ℕ) → i < 400 → i ≢ a → i ≢ b → get_or told_again (get_or slots i 0) 0 ≡ i
  place_elsewhere i wi na nb =
      get_or-set_other (set places other a) one (get_or slots i 0) b 0 (apart_slots i a wi within_a na)
      ∙ get_or-set_other places other (get_or slots i 0) a 0 (apart_slots i b wi within_b nb)
      ∙ p.told i wi

  within_again : (i : ℕ) → i < 400 → get_or swapped i 0 < 400
  within_again i wi = same_or i b
      (λ e. omega (arith, ap (λ k. get_or swapped k 0) e, at_b, p.within a within_a))
      (λ nb. same_or i a
      (λ e. omega (arith, ap (λ k. get_or swapped k 0) e, at_a (λ k. nb (e ∙ k)), p.within b within_b))
      (λ na. omega (arith, elsewhere i na nb, p.within i wi)))

  told_here : (i : ℕ) → i < 400 → get_or told_again (get_or swapped i 0) 0 ≡ i
  told_here i wi = same_or i b
      (λ e. ap (λ k. get_or told_again (get_or swapped k 0) 0) e ∙ ap (λ s. get_or told_again s 0) at_b ∙ place_one ∙ sym e)
      (λ nb. same_or i a
      (λ e.
      let ne : a ≢ b = λ k. nb (e ∙ k) in
      ap (λ k. get_or told_again (get_or swapped k 0) 0) e ∙ ap (λ s. get_or told_again s 0) (at_a ne) ∙ place_other ne ∙ sym e)
      (λ na. ap (λ s. get_or told_again s 0) (elsewhere i na nb) ∙ place_elsewhere i wi na nb))

  pub placed-swap : ArePlaced swapped told_again
  placed-swap =
      record {
        long = length-set (set slots a other) b one ∙ length-set slots a other ∙ p.long;
        wide = length-set (set places other a) one b ∙ length-set places other a ∙ p.wide;
        within = within_again;
        told = told_here;
      }

  pub swapped-is : swapped ≡ swap slots a b
  swapped-is = swap_is slots a b 0 (omega (arith, p.long)) (omega (arith, p.long))

-- the first slots, of which two change their places
module _ (xs : List ℕ) (n a b : ℕ) (few : n ≤ length xs) (within_a : a < n) (within_b : b < n) where
  long : length (take n xs) ≡ n
  long = length-take-le n xs few

  long_again : length (take n (swap xs a b)) ≡ n
  long_again = length-take-le n (swap xs a b) (omega (arith, few, length-swap xs a b))

  one_by_one : (k d : ℕ) → k < n → get_or (take n (swap xs a b)) k d ≡ get_or (swap (take n xs) a b) k d
  one_by_one k d wk =
      let whole : Swapped (λ i. get_or xs i d) (λ i. get_or (swap xs a b) i d) a b = swapped_from_swap xs (swap xs a b) a b d (omega (arith, few, within_a)) (omega (arith, few, within_b)) refl in
      let part : Swapped (λ i. get_or (take n xs) i d) (λ i. get_or (swap (take n xs) a b) i d) a b = swapped_from_swap (take n xs) (swap (take n xs) a b) a b d (omega (arith, long, within_a)) (omega (arith, long, within_b)) refl in
      get_or-take n (swap xs a b) k d wk ∙ same_or k a
      (λ e. ap (λ i. get_or (swap xs a b) i d) e ∙ whole.0 ∙ sym (get_or-take n xs b d within_b) ∙ sym part.0 ∙ ap (λ i. get_or (swap (take n xs) a b) i d) (sym e))
      (λ na. same_or k b
      (λ e. ap (λ i. get_or (swap xs a b) i d) e ∙ whole.1 ∙ sym (get_or-take n xs a d within_a) ∙ sym part.1 ∙ ap (λ i. get_or (swap (take n xs) a b) i d) (sym e))
      (λ nb. whole.2 k na nb ∙ sym (get_or-take n xs k d wk) ∙ sym (part.2 k na nb)))

  take-swap : take n (swap xs a b) ≡ swap (take n xs) a b
  take-swap = same_lists (take n (swap xs a b)) (swap (take n xs) a b) (long_again ∙ sym (length-swap (take n xs) a b ∙ long)) (λ k d wk. one_by_one k d (omega (arith, wk, long_again)))

  pub permutation-swap : IsPermutation (take n xs) (take n (swap xs a b))
  permutation-swap = IsPermutation-swap (take n xs) (take n (swap xs a b)) a b (omega (arith, long, within_a)) (omega (arith, long, within_b)) take-swap

-- a slot that is among the first ones has its place there
pub record IsUsed (slots places : List ℕ) (count slot : ℕ) : Type 0 where
  pub used : get_or places slot 0 < count
  pub placed : get_or slots (get_or places slot 0) 0 ≡ slot

pub used_slot : (slots places : List ℕ) (count slot : ℕ) → ArePlaced slots places → count ≤ 400 → Contains (take count slots) slot → IsUsed slots places count slot
used_slot slots places count slot p few among =
    let i = among.0 in
    let wi : i < count = omega (arith, among.1, length-take-le count slots (omega (arith, few, p.long))) in
    let is : get_or slots i 0 ≡ slot = get_or_default slots i 0 slot (omega (arith, wi, few, p.long)) ∙ sym (get_or-take count slots i slot wi) ∙ among.2 in
    let at : get_or places slot 0 ≡ i = ap (λ s. get_or places s 0) (sym is) ∙ p.told i (omega (arith, wi, few)) in
    record { used = omega (arith, at, wi); placed = ap (λ k. get_or slots k 0) at ∙ is }

-- the slot behind them isn't among them
pub free_slot : (slots places : List ℕ) (count : ℕ) → ArePlaced slots places → count < 400 → Contains (take count slots) (get_or slots count 0) → ⊥
free_slot slots places count p few among =
    let u = used_slot slots places count (get_or slots count 0) p (omega (arith, few)) among in
    omega (arith, u.used, p.told count few)

-- how often a number stands in a list
counted : ℕ → ℕ → ℕ
counted a x = cond (eqb x a) 1 0

counted-same : (a : ℕ) → counted a a ≡ 1
unfolding counted
counted-same a = rw (eq-eqb a a refl)

-- a number that is counted stands somewhere
abbrev Stands : ℕ → List ℕ → Type 0
Stands a ys = (i : ℕ) × (i < length ys) × (a ≡ get_or ys i a)

find : (a : ℕ) (ys : List ℕ) → 1 ≤ sum_by (counted a) ys → Stands a ys
unfolding counted
find a [] some = absurd (omega arith)
find a (y ∷ ys) some = step (eqb y a) refl (find a ys)
  where
    step : (v : Bool) → eqb y a ≡ v → (1 ≤ sum_by (counted a) ys → Stands a ys) → Stands a (y ∷ ys)
    step true e later = (0, omega arith, sym (eqb-true y a e))
    step false e later =
        let gone : counted a y ≡ 0 = rw e in
        let rest = later (omega (arith, some, sum_by-cons (counted a) y ys, gone)) in
        (suc rest.0, omega (arith, rest.1), rest.2)

-- two lists in which each number stands equally often
pub same_sums : (xs ys : List ℕ) → ((f : ℕ → ℕ) → sum_by f xs ≡ sum_by f ys) → IsPermutation xs ys
same_sums [] [] same = IsPermutation-refl []
same_sums [] (y ∷ ys) same = absurd (omega (arith, same (λ _. 1), sum_by-cons (λ _. 1) y ys))
same_sums (x ∷ xs) ys same =
    let there = find x ys (omega (arith, same (counted x), sum_by-cons (counted x) x xs, counted-same x)) in
    let moved : IsPermutation ys (x ∷ remove ys there.0) = IsPermutation-remove ys there.0 x there.1 there.2 in
    let rest : IsPermutation xs (remove ys there.0) = same_sums xs (remove ys there.0) (λ f. omega (arith, same f, sum_by-cons f x xs, sum_by-cons f x (remove ys there.0), sum_by-IsPermutation f ys (x ∷ remove ys there.0) moved)) in
    IsPermutation-trans (x ∷ xs) (x ∷ remove ys there.0) ys (IsPermutation-cons x xs (remove ys there.0) rest) (IsPermutation-sym ys (x ∷ remove ys there.0) moved)

-- one number is taken out of two lists with the same numbers
pub permutation-rest : (x : ℕ) (xs ys : List ℕ) → IsPermutation (x ∷ xs) (x ∷ ys) → IsPermutation xs ys
permutation-rest x xs ys moved =
    same_sums xs ys (λ f. omega (arith, sum_by-cons f x xs, sum_by-cons f x ys, sum_by-IsPermutation f (x ∷ xs) (x ∷ ys) moved))
