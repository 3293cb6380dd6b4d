-- Both rows of timers, once a timer has another deadline.
use Rattle.std.proofs.Common.{◌≡◌, ℕ, ◌<◌, List, ◌∷◌, length, map, get_or, set, take, remove, sym, ◌∙◌, ap, subst, arith}
use Rattle.std.specs.List.{Contains}
use Rattle.std.specs.List.Sorted.{IsPermutation}
use Rattle.std.proofs.lemmas.Bool.{false≢true}
use Rattle.std.proofs.lemmas.List.{get_or_default}
use Rattle.std.proofs.lemmas.List.Sorted.{IsPermutation-trans, IsPermutation-map, IsPermutation-remove}
use Rattle.lg_rules.specs.Meaning.Rows.{name_cmp, Rises}
use Rattle.lg_timers.specs.declared.timer.Timer.{Timer}
use Rattle.lg_timers.specs.Meaning.Timers.{id_key, with_timer, without_timer, in_turn}
use Rattle.lg_timers.specs.Support.Heap.{IsHeapAround}
use Rattle.lg_timers.specs.Support.Slots.{timer_in, timers_in, slot_key, HasSlot, timer_at, AreSettled, AreBothRows}
use Rattle.lg_timers.proofs.HeapLaws.{same_or, changed_at}
use Rattle.lg_timers.proofs.PlaceLaws.{IsUsed}
use Rattle.lg_timers.proofs.RowLaws.{row-used, row-within, rows-apart}
use Rattle.lg_timers.proofs.RowOrder.{in_turn-permutation}
use Rattle.lg_timers.proofs.SetLaws.{IsBefore, others-lack, others_left}
use Rattle.lg_timers.proofs.SlotLaws.{set_at, slot_named, slot_before, kept, kept_timers, put_there}

module _ {timers : List Timer} {slots places : List ℕ} {count : ℕ} {by_id : List ℕ} (rows : AreBothRows timers slots places count by_id) (t : Timer) {k : ℕ} (has : HasSlot timers t.id by_id k)
    (slot : ℕ) (read : slot ≡ get_or by_id k slot) where
  within : slot < length timers
  within = row-within rows k slot has.within read

  pub replaced-used : IsUsed slots places count slot
  replaced-used = row-used rows k slot has.within read

  -- the ids stay
  same_id : (s : ℕ) → slot_key (set timers slot t) s ≡ slot_key timers s
  same_id s = same_or s slot
      (λ e. ap (slot_key (set timers slot t)) e ∙ ap (λ u. id_key u.id) (put_there timers slot t within) ∙ sym (slot_named has slot read) ∙ ap (slot_key timers) (sym e))
      (λ other. ap (λ u. id_key u.id) (kept timers slot t s other))

  same_keys : map (slot_key (set timers slot t)) by_id ≡ map (slot_key timers) by_id
  same_keys = λ i. map (λ s. same_id s i) by_id

  -- the heap stands but at the place of this timer
  pub replaced-around : IsHeapAround (timer_at (set timers slot t) slots) count (get_or places slot 0)
  replaced-around =
      changed_at (timer_at timers slots) (timer_at (set timers slot t) slots) count (get_or places slot 0) rows.heap replaced-used.used
      (λ j jl other. kept timers slot t (get_or slots j 0) (λ same. other (sym (rows.kept.placed.told j (omega (arith, jl, rows.kept.few))) ∙ ap (λ s. get_or places s 0) same)))

  pub rows-replaced : (ss ps : List ℕ) → AreSettled (set timers slot t) slots ss ps count → AreBothRows (set timers slot t) ss ps count by_id
  rows-replaced ss ps settled =
      record {
        kept = settled.kept;
        heap = settled.heap;
        named = IsPermutation-trans by_id (take count slots) (take count ss) rows.named settled.moved;
        rises = subst (Rises name_cmp) (sym same_keys) rows.rises;
      }

  before : IsBefore t.id (timer_in timers slot) (timers_in timers (remove by_id k)) (timers_in timers by_id)
  before = slot_before has slot read

  -- the slot stands there once
  once : Contains (remove by_id k) slot → ⊥
  once among =
      let i = among.0 in
      let there : get_or (remove by_id k) i 0 ≡ slot = get_or_default (remove by_id k) i 0 slot among.1 ∙ among.2 in
      let named : slot_key timers (get_or (remove by_id k) i 0) ≡ id_key t.id = ap (slot_key timers) there ∙ slot_named has slot read in
      let apart = rows-apart rows in
      false≢true (sym (others-lack t.id (timer_in timers slot) (timers_in timers (remove by_id k)) (timers_in timers by_id) apart before) ∙ set_at timers t.id (remove by_id k) i among.1 named)

  -- the timer comes before the others, in another order
  replaced-front : IsPermutation (timers_in (set timers slot t) by_id) (t ∷ timers_in timers (remove by_id k))
  replaced-front =
      let moved : IsPermutation (timers_in (set timers slot t) by_id) (timers_in (set timers slot t) (slot ∷ remove by_id k)) = IsPermutation-map (timer_in (set timers slot t)) by_id (slot ∷ remove by_id k) (IsPermutation-remove by_id k slot has.within read) in
      let first : timer_in (set timers slot t) slot ≡ t = put_there timers slot t within in
      let others : timers_in (set timers slot t) (remove by_id k) ≡ timers_in timers (remove by_id k) = kept_timers timers slot t (remove by_id k) once in
      let both : timer_in (set timers slot t) slot ∷ timers_in (set timers slot t) (remove by_id k) ≡ t ∷ timers_in timers (remove by_id k) = λ i. first i ∷ others i in
      subst (λ (ts : List Timer). IsPermutation (timers_in (set timers slot t) by_id) ts) both moved

  pub in_turn-replaced : in_turn (timers_in (set timers slot t) by_id) ≡ with_timer t (without_timer t.id (in_turn (timers_in timers by_id)))
  unfolding in_turn
  in_turn-replaced =
      in_turn-permutation (timers_in (set timers slot t) by_id) (t ∷ timers_in timers (remove by_id k)) replaced-front
      ∙ ap (with_timer t) (others_left t.id (timer_in timers slot) (timers_in timers (remove by_id k)) (timers_in timers by_id) (rows-apart rows) before)
