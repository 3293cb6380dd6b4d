-- How a table of members holds the names by slots: for each slot but the first the index of the record whose name has
-- it, and for each record the slot of its name.
use Rattle.std.specs.Prelude.{ℕ, suc, ◌+◌, ◌-◌, ◌<◌, ◌≤◌, ◌≡◌, ◌==◌, ◌&&◌, ◌⊎◌, ⊤, false, nat_le, nat_lt, if◌then◌else◌}
use Rattle.std.specs.Prelude.{List, [], ◌∷◌, length, map, slice_get, Option, Some, None, All}
use Rattle.lg_rules.specs.Meaning.Rows.{name_cmp, is_among}
use Rattle.lg_rules.specs.Meaning.Slots.{is_held, slot_in}

-- this member's own name, and then at each slot the name of the record that has this index, if there is such a record
abbrev pub held_names : List ℕ → List (List ℕ) → List ℕ → List (Option (List ℕ))
held_names own keys indexes = Some own ∷ map (slice_get keys) indexes

-- the index of a free slot: it is that of no record, since there are at most 255
abbrev pub free_mark : ℕ
free_mark = 255

-- each name stands there once
abbrev pub AreNamedOnce : List (List ℕ) → Type 0
AreNamedOnce [] = ⊤
AreNamedOnce (n ∷ ns) = (is_among name_cmp n ns ≡ false) × AreNamedOnce ns

-- each name has one slot
abbrev pub AreHeldOnce : List (Option (List ℕ)) → Type 0
AreHeldOnce [] = ⊤
AreHeldOnce (None ∷ os) = AreHeldOnce os
AreHeldOnce (Some n ∷ os) = (is_held n os ≡ false) × AreHeldOnce os

-- how many slots are free
abbrev pub free_count : List (Option (List ℕ)) → ℕ
free_count [] = 0
free_count (None ∷ os) = suc (free_count os)
free_count (Some n ∷ os) = free_count os

-- The indexes are those of records or that of a free slot, no name has two slots, each record has the slot of its name,
-- and the slots that no record has are free.
pub record AreNumbered (own : List ℕ) (keys : List (List ℕ)) (slots indexes : List ℕ) : Type 0 where
  pub count : length indexes ≡ 255
  pub few : length keys ≤ 255
  pub marked : All (λ i. (i < length keys) ⊎ (i ≡ free_mark)) indexes
  pub once : AreHeldOnce (held_names own keys indexes)
  pub free : free_count (held_names own keys indexes) + length keys ≡ 255
  pub numbered : map (λ n. slot_in n (held_names own keys indexes)) keys ≡ map Some slots

-- the index of a record once another one was inserted at an index, and once the one at an index was removed
abbrev pub moved_up : ℕ → ℕ → ℕ
moved_up at i = if nat_le at i && nat_lt i free_mark then i + 1 else i

abbrev pub moved_down : ℕ → ℕ → ℕ
moved_down at i = if i == at then free_mark else if nat_lt at i && nat_lt i free_mark then i - 1 else i
