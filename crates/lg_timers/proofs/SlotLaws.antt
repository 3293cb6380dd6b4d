-- The timers in some slots: which ids they have, and what a change of one slot or of the slots in use does.
use Rattle.std.proofs.Common.{◌≡◌, ◌≢◌, ℕ, zero, suc, ◌+◌, ◌<◌, ◌≤◌, Bool, true, false, cond, ◌||◌, IsTrue, List, [], ◌∷◌, length, map, get_or, set, take, insert, remove, Some, refl, sym, ◌∙◌, ap, subst, arith}
use Rattle.std.specs.List.{Contains, All, list_any, prefix_len}
use Rattle.std.specs.List.Sorted.{IsPermutation}
use Rattle.std.specs.Ordering.{is_lt}
use Rattle.std.proofs.lemmas.Bool.{false≢true}
use Rattle.std.proofs.lemmas.List.{get_or_default, get_or-map, get_or-take, get_or-set_same, get_or-set_other, length-map, length-take-le}
use Rattle.std.proofs.lemmas.List.Elements.{All-from_get_or}
use Rattle.std.proofs.lemmas.List.Folds.{list_any_at, list_any_none}
use Rattle.std.proofs.lemmas.List.Sorted.{IsPermutation-map, IsPermutation-insert, IsPermutation-remove, IsPermutation-sym}
use Rattle.lg_rules.specs.Meaning.Rows.{name_cmp, is_among, AreAbove, Rises}
use Rattle.lg_rules.specs.Support.Places.{LacksRow}
use Rattle.lg_rules.proofs.KeyOrder.{names_order, same_key}
use Rattle.lg_rules.proofs.Places.{lacks_row}
use Rattle.lg_rules.proofs.Rises.{not_among}
use Rattle.lg_timers.specs.declared.timer.Timer.{Timer}
use Rattle.lg_timers.specs.declared.timer.TimerId.{TimerId}
use Rattle.lg_timers.specs.declared.timer.TimerId.TheVariants.{RoundEnd}
use Rattle.lg_timers.specs.Meaning.Timers.{id_key, has_id, is_set, have_distinct_ids, with_timer, in_turn, least_of}
use Rattle.lg_timers.specs.Support.Heap.{fires_before, IsHeap}
use Rattle.lg_timers.specs.Support.InTurn.{AreTimersApart, earlier}
use Rattle.lg_timers.specs.Support.Slots.{timer_in, timers_in, slot_key, HasSlot, LacksSlot, timer_at}
use Rattle.lg_timers.proofs.HeapLaws.{heap_top}
use Rattle.lg_timers.proofs.RowOrder.{in_turn-permutation, distinct-permutation}
use Rattle.lg_timers.proofs.SetLaws.{IsBefore}
use Rattle.lg_timers.proofs.TurnLaws.{any-in_turn, distinct_rest, least-with_timer}

-- the timer that stands for none
abbrev none : Timer
none = record { deadline = 0; id = RoundEnd }

-- the timer that was read in a slot
pub timer_read : (timers : List Timer) (read slot : ℕ) (t : Timer) → read ≡ slot → slot < length timers → t ≡ get_or timers read t → timer_in timers slot ≡ t
timer_read timers read slot t is within at = get_or_default timers slot none t within ∙ ap (λ i. get_or timers i t) (sym is) ∙ sym at

pub set_among : (timers : List Timer) (id : TimerId) (slots : List ℕ) → is_set id (timers_in timers slots) ≡ is_among name_cmp (id_key id) (map (slot_key timers) slots)
set_among timers id [] = refl
set_among timers id (s ∷ slots) = ap (λ b. has_id id (timer_in timers s) || b) (set_among timers id slots)

-- where the ids rise, no two are the same
rising_distinct : (timers : List Timer) (slots : List ℕ) → Rises name_cmp (map (slot_key timers) slots) → IsTrue (have_distinct_ids (timers_in timers slots))
rising_distinct timers [] r = refl
rising_distinct timers (s ∷ slots) r =
    let alone : is_set (timer_in timers s).id (timers_in timers slots) ≡ false = set_among timers (timer_in timers s).id slots ∙ not_among names_order (slot_key timers s) (map (slot_key timers) slots) r.0 in
    rw alone (rising_distinct timers slots r.1)

pub rising_apart : (timers : List Timer) (slots : List ℕ) → Rises name_cmp (map (slot_key timers) slots) → AreTimersApart (timers_in timers slots)
rising_apart timers slots r = record { distinct = rising_distinct timers slots r }

-- keys rise once one is taken out
module _ (key : ℕ → List ℕ) where
  above-remove : (m : List ℕ) (rows : List ℕ) (i : ℕ) → AreAbove name_cmp m (map key rows) → AreAbove name_cmp m (map key (remove rows i))
  above-remove m [] zero a = tt
  above-remove m [] (suc i) a = tt
  above-remove m (x ∷ rows) zero a = a.1
  above-remove m (x ∷ rows) (suc i) a = (a.0, above-remove m rows i a.1)

  pub rises-remove : (rows : List ℕ) (i : ℕ) → Rises name_cmp (map key rows) → Rises name_cmp (map key (remove rows i))
  rises-remove [] zero r = tt
  rises-remove [] (suc i) r = tt
  rises-remove (x ∷ rows) zero r = r.1
  rises-remove (x ∷ rows) (suc i) r = (above-remove (key x) rows i r.0, rises-remove rows i r.1)

-- the timer of an id, found in the order of the ids
module _ (timers : List Timer) (id : TimerId) (slots : List ℕ) where
  pub set_at : (k : ℕ) → k < length slots → slot_key timers (get_or slots k 0) ≡ id_key id → is_set id (timers_in timers slots) ≡ true
  set_at k within named =
      let there : get_or (timers_in timers slots) k none ≡ timer_in timers (get_or slots k 0) = get_or-map (timer_in timers) slots k 0 none within in
      list_any_at (has_id id) (timers_in timers slots) k none (omega (arith, within, length-map slots (timer_in timers)))
      (ap (has_id id) there ∙ same_key names_order (slot_key timers (get_or slots k 0)) (id_key id) named)

-- a timer of an id was found
module _ {timers : List Timer} {id : TimerId} {slots : List ℕ} {k : ℕ} (has : HasSlot timers id slots k) where
  pub has_set : is_set id (timers_in timers slots) ≡ true
  has_set = set_at timers id slots k has.within has.named

  pub slot_named : (slot : ℕ) → slot ≡ get_or slots k slot → slot_key timers slot ≡ id_key id
  slot_named slot read = ap (slot_key timers) (read ∙ get_or_default slots k slot 0 has.within) ∙ has.named

  -- it stands before the others
  pub slot_before : (slot : ℕ) → slot ≡ get_or slots k slot → IsBefore id (timer_in timers slot) (timers_in timers (remove slots k)) (timers_in timers slots)
  slot_before slot read =
      record {
        moved = IsPermutation-map (timer_in timers) slots (slot ∷ remove slots k) (IsPermutation-remove slots k slot has.within read);
        named = same_key names_order (slot_key timers slot) (id_key id) (slot_named slot read);
      }

-- none was found: a slot that has the id would come in its place
pub lacks-row : {timers : List Timer} {id : TimerId} {slots : List ℕ} {k : ℕ} → LacksSlot timers id slots k → LacksRow name_cmp (slot_key timers) (id_key id) slots k
lacks-row {timers} {id} {slots} {k} lacks =
    lacks_row names_order (slot_key timers) (id_key id) k 0 slots lacks.place (λ within named. false≢true (sym lacks.unset ∙ set_at timers id slots k within named))

-- what is found in a row is found in the same row
pub has_along : {timers : List Timer} {id : TimerId} {read : List ℕ} {k : ℕ} (slots : List ℕ) → read ≡ slots → HasSlot timers id read k → HasSlot timers id slots k
has_along {timers} {id} {read} {k} slots same has = subst (λ (xs : List ℕ). HasSlot timers id xs k) same has

pub lacks_along : {timers : List Timer} {id : TimerId} {read : List ℕ} {k : ℕ} (slots : List ℕ) → read ≡ slots → LacksSlot timers id read k → LacksSlot timers id slots k
lacks_along {timers} {id} {read} {k} slots same lacks = subst (λ (xs : List ℕ). LacksSlot timers id xs k) same lacks

-- another timer in one slot
module _ (timers : List Timer) (slot : ℕ) (t : Timer) where
  pub kept : (s : ℕ) → s ≢ slot → timer_in (set timers slot t) s ≡ timer_in timers s
  kept s other = get_or-set_other timers slot s t none other

  pub put_there : slot < length timers → timer_in (set timers slot t) slot ≡ t
  put_there within = get_or-set_same timers slot t none within

  kept_by : {A : Type 0} (f : Timer → A) (slots : List ℕ) → (Contains slots slot → ⊥) → map (λ s. f (timer_in (set timers slot t) s)) slots ≡ map (λ s. f (timer_in timers s)) slots
  kept_by f [] free = refl
  kept_by f (s ∷ slots) free =
      let first : timer_in (set timers slot t) s ≡ timer_in timers s = kept s (λ e. free (0, omega arith, e)) in
      let rest = kept_by f slots (λ among. free (suc among.0, omega (arith, among.1), among.2)) in
      λ i. f (first i) ∷ rest i

  pub kept_timers : (slots : List ℕ) → (Contains slots slot → ⊥) → timers_in (set timers slot t) slots ≡ timers_in timers slots
  kept_timers slots free = kept_by (λ u. u) slots free

  pub kept_keys : (slots : List ℕ) → (Contains slots slot → ⊥) → map (slot_key (set timers slot t)) slots ≡ map (slot_key timers) slots
  kept_keys slots free = kept_by (λ u. id_key u.id) slots free

  kept_count : (n : List ℕ) (slots : List ℕ) → (Contains slots slot → ⊥) → prefix_len (λ s. is_lt (name_cmp (slot_key (set timers slot t) s) n)) slots ≡ prefix_len (λ s. is_lt (name_cmp (slot_key timers s) n)) slots
  kept_count n [] free = refl
  kept_count n (s ∷ slots) free =
      let first : slot_key (set timers slot t) s ≡ slot_key timers s = ap (λ u. id_key u.id) (kept s (λ e. free (0, omega arith, e))) in
      let rest = kept_count n slots (λ among. free (suc among.0, omega (arith, among.1), among.2)) in
      λ i. cond (is_lt (name_cmp (first i) n)) (1 + rest i) 0

  pub kept_lacks : (slots : List ℕ) (k : ℕ) → (Contains slots slot → ⊥) → LacksSlot timers t.id slots k → LacksSlot (set timers slot t) t.id slots k
  kept_lacks slots k free lacks =
      record { place = lacks.place ∙ sym (kept_count (id_key t.id) slots free); unset = ap (is_set t.id) (kept_timers slots free) ∙ lacks.unset }

  -- the slot is taken into use
  put_permutation : (slots : List ℕ) (k : ℕ) → slot < length timers → (Contains slots slot → ⊥) → IsPermutation (timers_in (set timers slot t) (insert slots k slot)) (t ∷ timers_in timers slots)
  put_permutation slots k within free =
      let changed : List Timer = set timers slot t in
      let moved : IsPermutation (timer_in changed slot ∷ timers_in changed slots) (timers_in changed (insert slots k slot)) = IsPermutation-map (timer_in changed) (slot ∷ slots) (insert slots k slot) (IsPermutation-insert slots k slot) in
      let first : timer_in changed slot ≡ t = put_there within in
      let others : timers_in changed slots ≡ timers_in timers slots = kept_timers slots free in
      let both : timer_in changed slot ∷ timers_in changed slots ≡ t ∷ timers_in timers slots = λ i. first i ∷ others i in
      IsPermutation-sym (t ∷ timers_in timers slots) (timers_in changed (insert slots k slot)) (subst (λ (ts : List Timer). IsPermutation ts (timers_in changed (insert slots k slot))) both moved)

  pub in_turn-insert : (slots : List ℕ) (k : ℕ) → slot < length timers → (Contains slots slot → ⊥) → in_turn (timers_in (set timers slot t) (insert slots k slot)) ≡ with_timer t (in_turn (timers_in timers slots))
  unfolding in_turn
  in_turn-insert slots k within free = in_turn-permutation (timers_in (set timers slot t) (insert slots k slot)) (t ∷ timers_in timers slots) (put_permutation slots k within free)

-- of some timers, one before which none fires
module _ (t : Timer) where
  first_of_two : (ts : List Timer) → list_any (λ u. fires_before u t) ts ≡ false → earlier (least_of ts) t ≡ t
  unfolding fires_before
  first_of_two [] late = refl
  first_of_two (u ∷ ts) late = rw (first (fires_before u t) late)
    where
      first : (b : Bool) → (b || list_any (λ v. fires_before v t) ts) ≡ false → b ≡ false
      first true bad = absurd cc
      first false rest = refl

  first_rest : (rest : List Timer) → list_any (λ u. fires_before u t) (t ∷ rest) ≡ false → list_any (λ u. fires_before u t) rest ≡ false
  first_rest rest late = step (fires_before t t) late
    where
      step : (b : Bool) → (b || list_any (λ u. fires_before u t) rest) ≡ false → list_any (λ u. fires_before u t) rest ≡ false
      step true bad = absurd cc
      step false e = e

  least-first : (ts rest : List Timer) → AreTimersApart ts → IsPermutation ts (t ∷ rest) → list_any (λ u. fires_before u t) (t ∷ rest) ≡ false → least_of (in_turn ts) ≡ Some t
  unfolding in_turn
  least-first ts rest apart moved late =
      let distinct : IsTrue (have_distinct_ids (t ∷ rest)) = distinct-permutation ts (t ∷ rest) moved apart.distinct in
      let none_before : list_any (λ u. fires_before u t) (in_turn rest) ≡ false = any-in_turn (λ u. fires_before u t) rest (distinct_rest t rest distinct) ∙ first_rest rest late in
      ap least_of (in_turn-permutation ts (t ∷ rest) moved) ∙ least-with_timer t (in_turn rest) ∙ ap Some (first_of_two (in_turn rest) none_before)

-- the first slot in use, and the others
front : (slots : List ℕ) (count : ℕ) → 0 < count → count ≤ length slots → (rest : List ℕ) × (take count slots ≡ get_or slots 0 0 ∷ rest)
front slots zero pos few = absurd (omega arith)
front [] (suc count) pos few = absurd (omega arith)
front (s ∷ slots) (suc count) pos few = (take count slots, refl)

-- the timer at the first place of a heap fires first
pub least-heap : (timers : List Timer) (slots by_id : List ℕ) (count : ℕ) → count ≤ length slots → 0 < count → IsHeap (timer_at timers slots) count → IsPermutation by_id (take count slots) → Rises name_cmp (map (slot_key timers) by_id)
    → least_of (in_turn (timers_in timers by_id)) ≡ Some (timer_at timers slots 0)
least-heap timers slots by_id count few pos heap named rises =
    let first : ℕ = get_or slots 0 0 in
    let used_first = front slots count pos few in
    let rest : List ℕ = used_first.0 in
    let used : take count slots ≡ first ∷ rest = used_first.1 in
    let moved : IsPermutation (timers_in timers by_id) (timers_in timers (first ∷ rest)) = IsPermutation-map (timer_in timers) by_id (first ∷ rest) (subst (λ (ss : List ℕ). IsPermutation by_id ss) used named) in
    let late : list_any (λ u. fires_before u (timer_in timers first)) (timers_in timers (first ∷ rest)) ≡ false = ap (λ ss. list_any (λ u. fires_before u (timer_in timers first)) (timers_in timers ss)) (sym used) ∙ list_any_none (λ u. fires_before u (timer_in timers first)) (timers_in timers (take count slots)) all_late in
    least-first (timer_in timers first) (timers_in timers by_id) (timers_in timers rest) (rising_apart timers by_id rises) moved late
  where
    long : length (timers_in timers (take count slots)) ≡ count
    long = length-map (take count slots) (timer_in timers) ∙ length-take-le count slots few

    all_late : All (λ u. fires_before u (timer_in timers (get_or slots 0 0)) ≡ false) (timers_in timers (take count slots))
    all_late = All-from_get_or (λ u. fires_before u (timer_in timers (get_or slots 0 0)) ≡ false) (timers_in timers (take count slots)) none (λ i within.
        let wi : i < count = omega (arith, within, long) in
        let is : get_or (timers_in timers (take count slots)) i none ≡ timer_at timers slots i =
        get_or-map (timer_in timers) (take count slots) i 0 none (omega (arith, wi, length-take-le count slots few)) ∙ ap (timer_in timers) (get_or-take count slots i 0 wi) in
        subst (λ (u : Timer). fires_before u (timer_in timers (get_or slots 0 0)) ≡ false) (sym is) (heap_top (timer_at timers slots) count heap count i (omega arith) wi))
