-- Both rows of timers: once a timer is set, cancelled or given another deadline, they name the same timers again.
use Rattle.std.proofs.Common.{◌≡◌, ℕ, ◌+◌, ◌<◌, ◌≤◌, List, [], ◌∷◌, ◌++◌, length, map, get_or, set, take, insert, remove, Some, None, sym, ◌∙◌, ap, subst, arith}
use Rattle.std.specs.List.{Contains, All}
use Rattle.std.specs.List.Sorted.{IsPermutation}
use Rattle.std.proofs.lemmas.List.{take_more, length-take-le, length-map}
use Rattle.std.proofs.lemmas.List.Elements.{All-from_get_or}
use Rattle.std.proofs.lemmas.List.Sorted.{IsPermutation-trans, IsPermutation-sym, IsPermutation-cons, IsPermutation-insert, IsPermutation-remove, IsPermutation-to_front, Contains-permutation, All-permutation, length_permutation}
use Rattle.std.proofs.lemmas.List.{get_or-take, nil_from_length}
use Rattle.lg_rules.specs.Meaning.Rows.{name_cmp, Rises}
use Rattle.lg_rules.proofs.KeyOrder.{names_order}
use Rattle.lg_rules.proofs.RowsFound.{rises-put_row}
use Rattle.lg_timers.specs.declared.timer.Timer.{Timer}
use Rattle.lg_timers.specs.declared.timer.TimerId.{TimerId}
use Rattle.lg_timers.specs.Meaning.Timers.{id_key, is_set, with_timer, in_turn, least_of}
use Rattle.lg_timers.specs.Support.Heap.{IsHeap}
use Rattle.lg_timers.specs.Support.InTurn.{AreTimersApart}
use Rattle.lg_timers.specs.Support.Slots.{timer_in, timers_in, slot_key, LacksSlot, timer_at, AreTimerSlots, AreSettled, AreBothRows}
use Rattle.lg_timers.proofs.HeapLaws.{same_heap, apart_less}
use Rattle.lg_timers.proofs.PlaceLaws.{IsUsed, used_slot, free_slot, permutation-rest}
use Rattle.lg_timers.proofs.SetLaws.{length-row, set-row}
use Rattle.lg_timers.proofs.SlotLaws.{rising_apart, rises-remove, lacks-row, kept, kept_keys, kept_lacks, put_there, in_turn-insert, least-heap}

module _ {timers : List Timer} {slots places : List ℕ} {count : ℕ} {by_id : List ℕ} (rows : AreBothRows timers slots places count by_id) where
  -- the slots that are in use
  few : count ≤ length slots
  few = omega (arith, rows.kept.few, rows.kept.placed.long)

  pub rows-long : length by_id ≡ count
  rows-long = sym (length_permutation by_id (take count slots) rows.named) ∙ length-take-le count slots few

  pub rows-apart : AreTimersApart (timers_in timers by_id)
  rows-apart = rising_apart timers by_id rows.rises

  pub rows-length : length (in_turn (timers_in timers by_id)) ≡ count
  rows-length = length-row (timers_in timers by_id) rows-apart ∙ length-map by_id (timer_in timers) ∙ rows-long

  -- there is room for one more
  pub rows-room : (now : List Timer) → in_turn (timers_in timers by_id) ≡ now → length now < 400 → count < 400
  rows-room now view room = omega (arith, ap length view, rows-length, room)

  -- which ids are set
  pub rows-set : (id : TimerId) (now : List Timer) → in_turn (timers_in timers by_id) ≡ now → is_set id now ≡ is_set id (timers_in timers by_id)
  rows-set id now view = ap (is_set id) (sym view) ∙ set-row id (timers_in timers by_id) rows-apart

  used_within : All (λ slot. slot < length timers) (take count slots)
  used_within = All-from_get_or (λ slot. slot < length timers) (take count slots) 0 (λ i within.
      let wi : i < count = omega (arith, within, length-take-le count slots few) in
      omega (arith, get_or-take count slots i 0 wi, rows.kept.placed.within i (omega (arith, wi, rows.kept.few)), rows.kept.full))

  pub rows-within : All (λ slot. slot < length timers) by_id
  rows-within = All-permutation (λ slot. slot < length timers) (take count slots) by_id (IsPermutation-sym by_id (take count slots) rows.named) used_within

  -- the slot at an index of the row of ids
  pub row-used : (k slot : ℕ) → k < length by_id → slot ≡ get_or by_id k slot → IsUsed slots places count slot
  row-used k slot within read = used_slot slots places count slot rows.kept.placed rows.kept.few (Contains-permutation by_id (take count slots) slot rows.named (k, within, sym read))

  pub row-within : (k slot : ℕ) → k < length by_id → slot ≡ get_or by_id k slot → slot < length timers
  row-within k slot within read = subst (λ (s : ℕ). s < length timers) (sym read) (rows-within k slot within)

  -- the free slot
  module _ (slot : ℕ) (is : slot ≡ get_or slots count 0) (room : count < 400) (t : Timer) where
    pub free-unused : Contains by_id slot → ⊥
    free-unused among = free_slot slots places count rows.kept.placed room (subst (λ (s : ℕ). Contains (take count slots) s) is (Contains-permutation by_id (take count slots) slot rows.named among))

    pub free-within : slot < length timers
    free-within = omega (arith, is, rows.kept.placed.within count room, rows.kept.full)

    -- a timer is put there
    pub free-heap : IsHeap (timer_at (set timers slot t) slots) count
    free-heap = same_heap (timer_at timers slots) (timer_at (set timers slot t) slots) count rows.heap (λ j jl.
        kept timers slot t (get_or slots j 0) (λ same.
        apart_less j count jl (sym (rows.kept.placed.told j (omega (arith, jl, rows.kept.few))) ∙ ap (λ s. get_or places s 0) (same ∙ is) ∙ rows.kept.placed.told count room)))

    pub free-rises : Rises name_cmp (map (slot_key (set timers slot t)) by_id)
    free-rises = subst (Rises name_cmp) (sym (kept_keys timers slot t by_id free-unused)) rows.rises

    pub free-view : (k : ℕ) → in_turn (timers_in (set timers slot t) (insert by_id k slot)) ≡ with_timer t (in_turn (timers_in timers by_id))
    free-view k = in_turn-insert timers slot t by_id k free-within free-unused

    -- the slot is put among the others by its timer's id
    added-named : (k : ℕ) (ss : List ℕ) → IsPermutation (take (count + 1) slots) (take (count + 1) ss) → IsPermutation (insert by_id k slot) (take (count + 1) ss)
    added-named k ss moved =
        let front : IsPermutation (insert by_id k slot) (slot ∷ take count slots) = IsPermutation-trans (insert by_id k slot) (slot ∷ by_id) (slot ∷ take count slots) (IsPermutation-sym (slot ∷ by_id) (insert by_id k slot) (IsPermutation-insert by_id k slot)) (IsPermutation-cons slot by_id (take count slots) rows.named) in
        let last : IsPermutation (slot ∷ take count slots) (take count slots ++ slot ∷ []) = IsPermutation-sym (take count slots ++ slot ∷ []) (slot ∷ take count slots) (IsPermutation-to_front (take count slots) slot) in
        let more : take (count + 1) slots ≡ take count slots ++ slot ∷ [] = take_more slots count 0 (omega (arith, room, rows.kept.placed.long)) ∙ ap (λ s. take count slots ++ s ∷ []) (sym is) in
        IsPermutation-trans (insert by_id k slot) (take count slots ++ slot ∷ []) (take (count + 1) ss)
        (IsPermutation-trans (insert by_id k slot) (slot ∷ take count slots) (take count slots ++ slot ∷ []) front last)
        (subst (λ (xs : List ℕ). IsPermutation xs (take (count + 1) ss)) more moved)

    pub rows-added : (k : ℕ) (ss ps : List ℕ) → LacksSlot timers t.id by_id k → AreSettled (set timers slot t) slots ss ps (count + 1)
        → AreBothRows (set timers slot t) ss ps (count + 1) (insert by_id k slot)
    rows-added k ss ps lacks settled =
        let row = lacks-row (kept_lacks timers slot t by_id k free-unused lacks) in
        let own : slot_key (set timers slot t) slot ≡ id_key t.id = ap (λ u. id_key u.id) (put_there timers slot t free-within) in
        record {
          kept = settled.kept;
          heap = settled.heap;
          named = added-named k ss settled.moved;
          rises = subst (λ (xs : List ℕ). Rises name_cmp (map (slot_key (set timers slot t)) xs)) (sym (row.insert slot own)) (rises-put_row names_order (slot_key (set timers slot t)) slot by_id free-rises);
        }

  -- a slot is taken out of both rows
  pub rows-removed : (k slot m : ℕ) (ss ps : List ℕ) → k < length by_id → slot ≡ get_or by_id k slot → AreTimerSlots timers ss ps m → IsHeap (timer_at timers ss) m → IsPermutation (take count slots) (slot ∷ take m ss)
      → AreBothRows timers ss ps m (remove by_id k)
  rows-removed k slot m ss ps within read both heap moved =
      record {
        kept = both;
        heap = heap;
        named = permutation-rest slot (remove by_id k) (take m ss) (IsPermutation-trans (slot ∷ remove by_id k) by_id (slot ∷ take m ss)
            (IsPermutation-sym by_id (slot ∷ remove by_id k) (IsPermutation-remove by_id k slot within read))
            (IsPermutation-trans by_id (take count slots) (slot ∷ take m ss) rows.named moved));
        rises = rises-remove (slot_key timers) by_id k rows.rises;
      }

-- the first timer, if any is set
module _ {timers : List Timer} {slots places : List ℕ} {count : ℕ} {by_id : List ℕ} (rows : AreBothRows timers slots places count by_id) where
  pub rows-least_none : count ≡ 0 → least_of (in_turn (timers_in timers by_id)) ≡ None
  unfolding in_turn
  rows-least_none none = ap (λ ss. least_of (in_turn (timers_in timers ss))) (nil_from_length by_id (rows-long rows ∙ none))

  pub rows-least : 0 < count → least_of (in_turn (timers_in timers by_id)) ≡ Some (timer_at timers slots 0)
  rows-least pos = least-heap timers slots by_id count (omega (arith, rows.kept.few, rows.kept.placed.long)) pos rows.heap rows.named rows.rises
