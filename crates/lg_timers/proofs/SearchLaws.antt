-- Slots in the order of their timers' ids: what halving the row finds.
use Rattle.std.proofs.Common.{◌≡◌, ℕ, zero, suc, ◌+◌, ◌<◌, ◌≤◌, Bool, true, false, ltb, List, [], ◌∷◌, length, map, get_or, refl, sym, ◌∙◌, ap, arith}
use Rattle.std.specs.Ordering.{is_lt, is_eq}
use Rattle.std.specs.declared.cmp.Ordering.TheVariants.{Less, Equal, Greater}
use Rattle.std.proofs.lemmas.Bool.{ltb-true, ltb-false}
use Rattle.std.proofs.lemmas.List.{get_or-map, length-map}
use Rattle.std.proofs.lemmas.List.Elements.{All-from_get_or}
use Rattle.std.proofs.lemmas.List.Folds.{list_any_none}
use Rattle.std.proofs.lemmas.List.Sums.{prefix_len_is}
use Rattle.lg_rules.specs.Meaning.Rows.{name_cmp, AreAbove, Rises}
use Rattle.lg_rules.proofs.KeyOrder.{names_order, turned}
use Rattle.lg_timers.specs.declared.timer.Timer.{Timer}
use Rattle.lg_timers.specs.declared.timer.TimerId.{TimerId}
use Rattle.lg_timers.specs.declared.timer.TimerId.TheVariants.{RoundEnd}
use Rattle.lg_timers.specs.Meaning.Timers.{id_key, has_id}
use Rattle.lg_timers.specs.Support.Slots.{timer_in, timers_in, slot_key, HasSlot, LacksSlot}
use Rattle.lg_timers.proofs.HeapLaws.{same_or}

-- a key is below those behind it
module _ (key : ℕ → List ℕ) where
  above_at : (m : List ℕ) (rows : List ℕ) (j : ℕ) → AreAbove name_cmp m (map key rows) → j < length rows → name_cmp m (key (get_or rows j 0)) ≡ Less
  above_at m [] j a within = absurd (omega arith)
  above_at m (x ∷ rows) zero a within = a.0
  above_at m (x ∷ rows) (suc j) a within = above_at m rows j a.1 (omega arith)

  rising_at : (rows : List ℕ) (i j : ℕ) → Rises name_cmp (map key rows) → i < j → j < length rows → name_cmp (key (get_or rows i 0)) (key (get_or rows j 0)) ≡ Less
  rising_at [] i j r before within = absurd (omega arith)
  rising_at (x ∷ rows) zero zero r before within = absurd (omega arith)
  rising_at (x ∷ rows) zero (suc j) r before within = above_at (key x) rows j r.0 (omega arith)
  rising_at (x ∷ rows) (suc i) zero r before within = absurd (omega arith)
  rising_at (x ∷ rows) (suc i) (suc j) r before within = rising_at rows i j r.1 (omega arith) (omega arith)

module _ (timers : List Timer) (id : TimerId) (slots : List ℕ) where
  -- those before a lesser one are lesser, and those behind a greater one are greater
  pub lesser_before : (m : ℕ) → Rises name_cmp (map (slot_key timers) slots) → m < length slots → name_cmp (slot_key timers (get_or slots m 0)) (id_key id) ≡ Less
      → (k : ℕ) → k < m + 1 → name_cmp (slot_key timers (get_or slots k 0)) (id_key id) ≡ Less
  lesser_before m r within at k before = same_or k m
      (λ e. ap (λ i. name_cmp (slot_key timers (get_or slots i 0)) (id_key id)) e ∙ at)
      (λ other. names_order.total.trans (slot_key timers (get_or slots k 0)) (slot_key timers (get_or slots m 0)) (id_key id) (rising_at (slot_key timers) slots k m r (omega (arith, before, other)) within) at)

  pub greater_behind : (m : ℕ) → Rises name_cmp (map (slot_key timers) slots) → name_cmp (slot_key timers (get_or slots m 0)) (id_key id) ≡ Greater
      → (k : ℕ) → m ≤ k → k < length slots → name_cmp (slot_key timers (get_or slots k 0)) (id_key id) ≡ Greater
  greater_behind m r at k behind within = same_or k m
      (λ e. ap (λ i. name_cmp (slot_key timers (get_or slots i 0)) (id_key id)) e ∙ at)
      (λ other.
      let below = turned names_order (slot_key timers (get_or slots m 0)) (id_key id) Greater at in
      let up = rising_at (slot_key timers) slots m k r (omega (arith, behind, other)) within in
      turned names_order (id_key id) (slot_key timers (get_or slots k 0)) Less (names_order.total.trans (id_key id) (slot_key timers (get_or slots m 0)) (slot_key timers (get_or slots k 0)) below up))

  pub found_at : (m : ℕ) → m < length slots → name_cmp (slot_key timers (get_or slots m 0)) (id_key id) ≡ Equal → HasSlot timers id slots m
  found_at m within at = record { within = within; named = names_order.exact (slot_key timers (get_or slots m 0)) (id_key id) at }

  module _ (m : ℕ) (short : m ≤ length slots) (lesser : (k : ℕ) → k < m → name_cmp (slot_key timers (get_or slots k 0)) (id_key id) ≡ Less)
      (greater : (k : ℕ) → m ≤ k → k < length slots → name_cmp (slot_key timers (get_or slots k 0)) (id_key id) ≡ Greater) where
    other_at : (k : ℕ) → k < length slots → has_id id (timer_in timers (get_or slots k 0)) ≡ false
    other_at k within = step (ltb k m) refl
      where
        step : (b : Bool) → ltb k m ≡ b → has_id id (timer_in timers (get_or slots k 0)) ≡ false
        step true e = ap is_eq (lesser k (ltb-true k m e))
        step false e = ap is_eq (greater k (ltb-false k m e) within)

    pub missing_at : LacksSlot timers id slots m
    missing_at =
        record {
          place = sym (prefix_len_is (λ s. is_lt (name_cmp (slot_key timers s) (id_key id))) slots m 0 short (λ k l. ap is_lt (lesser k l)) (λ l. ap is_lt (greater m (omega arith) l)));
          unset = list_any_none (has_id id) (timers_in timers slots) (All-from_get_or (λ t. has_id id t ≡ false) (timers_in timers slots) (record { deadline = 0; id = RoundEnd }) (λ k within.
              let inside : k < length slots = omega (arith, within, length-map slots (timer_in timers)) in
              ap (has_id id) (get_or-map (timer_in timers) slots k 0 (record { deadline = 0; id = RoundEnd }) inside) ∙ other_at k inside));
        }
