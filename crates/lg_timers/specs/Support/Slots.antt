-- Timers in slots: the slots in use as a heap, and in the order of their timers' ids.
use Rattle.std.specs.Prelude.{ℕ, ◌≡◌, ◌<◌, ◌≤◌, false, List, map, take, length, slice_index, slice_index_or}
use Rattle.std.specs.List.{prefix_len}
use Rattle.std.specs.List.Sorted.{IsPermutation}
use Rattle.std.specs.Ordering.{is_lt}
use Rattle.lg_rules.specs.Meaning.Rows.{name_cmp, Rises}
use Rattle.lg_timers.specs.declared.timer.Timer.{Timer}
use Rattle.lg_timers.specs.declared.timer.TimerId.{TimerId}
use Rattle.lg_timers.specs.declared.timer.TimerId.TheVariants.{RoundEnd}
use Rattle.lg_timers.specs.declared.timers.TheConstants.{MAX_TIMERS}
use Rattle.lg_timers.specs.Meaning.Timers.{id_key, is_set}
use Rattle.lg_timers.specs.Support.Heap.{IsHeap}

-- the timer in a slot
abbrev pub timer_in : List Timer → ℕ → Timer
timer_in timers slot = slice_index_or timers slot (record { deadline = 0; id = RoundEnd })

-- the timers in some slots
abbrev pub timers_in : List Timer → List ℕ → List Timer
timers_in timers slots = map (timer_in timers) slots

-- the id of the timer in a slot, as a list of numbers
abbrev pub slot_key : List Timer → ℕ → List ℕ
slot_key timers slot = id_key (timer_in timers slot).id

-- The timer in the slot at this index has the id.
pub record HasSlot (timers : List Timer) (id : TimerId) (slots : List ℕ) (at : ℕ) : Type 0 where
  pub within : at < length slots
  pub named : slot_key timers (slice_index slots at) ≡ id_key id

-- No timer in these slots has the id: a slot whose timer has it would be inserted at this index.
pub record LacksSlot (timers : List Timer) (id : TimerId) (slots : List ℕ) (at : ℕ) : Type 0 where
  pub place : at ≡ prefix_len (λ slot. is_lt (name_cmp (slot_key timers slot) (id_key id))) slots
  pub unset : is_set id (timers_in timers slots) ≡ false

-- the timer at a place
abbrev pub timer_at : List Timer → List ℕ → ℕ → Timer
timer_at timers slots place = timer_in timers (slice_index slots place)

-- All slots in some order, and the place of each.
pub record ArePlaced (slots places : List ℕ) : Type 0 where
  pub long : length slots ≡ MAX_TIMERS
  pub wide : length places ≡ MAX_TIMERS
  pub within : (i : ℕ) → i < MAX_TIMERS → slice_index slots i < MAX_TIMERS
  pub told : (i : ℕ) → i < MAX_TIMERS → slice_index places (slice_index slots i) ≡ i

-- Each slot holds a timer, and the first ones in this order are in use.
pub record AreTimerSlots (timers : List Timer) (slots places : List ℕ) (count : ℕ) : Type 0 where
  pub full : length timers ≡ MAX_TIMERS
  pub placed : ArePlaced slots places
  pub few : count ≤ MAX_TIMERS

-- The slots in use are in another order now, in which their timers are a heap.
pub record AreSettled (timers : List Timer) (before slots places : List ℕ) (count : ℕ) : Type 0 where
  pub kept : AreTimerSlots timers slots places count
  pub moved : IsPermutation (take count before) (take count slots)
  pub heap : IsHeap (timer_at timers slots) count

-- Both rows name the same timers: the slots in use, whose timers are a heap, and the slots in the order of the ids.
pub record AreBothRows (timers : List Timer) (slots places : List ℕ) (count : ℕ) (by_id : List ℕ) : Type 0 where
  pub kept : AreTimerSlots timers slots places count
  pub heap : IsHeap (timer_at timers slots) count
  pub named : IsPermutation by_id (take count slots)
  pub rises : Rises name_cmp (map (slot_key timers) by_id)
