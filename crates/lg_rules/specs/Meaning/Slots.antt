-- Slots: the known names as numbers. A row of slots has for each slot, from 0, the name that has it, or None if the
-- slot is free. There are 256 slots, and slot 0 is that of this member's own name (this project's choice).
use Rattle.std.specs.Prelude.{ℕ, suc, Bool, true, false, if◌then◌else◌}
use Rattle.std.specs.Prelude.{List, [], ◌∷◌, map, replicate, slice_set, Option, Some, None}
use Rattle.std.specs.List.{list_any}
use Rattle.lg_rules.specs.Meaning.Bounds.{most_others}
use Rattle.lg_rules.specs.Meaning.Rows.{name_cmp, is_same}

-- whether a name has this slot, and whether it has any
abbrev pub holds : List ℕ → Option (List ℕ) → Bool
holds n None = false
holds n (Some m) = is_same name_cmp m n

abbrev pub is_held : List ℕ → List (Option (List ℕ)) → Bool
is_held n names = list_any (holds n) names

-- the slot of a name, if it has one
abbrev pub one_further : Option ℕ → Option ℕ
one_further None = None
one_further (Some slot) = Some (suc slot)

abbrev pub slot_in : List ℕ → List (Option (List ℕ)) → Option ℕ
slot_in n [] = None
slot_in n (o ∷ os) = if holds n o then Some 0 else one_further (slot_in n os)

-- the lowest free slot, if one is free
abbrev pub is_vacant : Option (List ℕ) → Bool
is_vacant None = true
is_vacant (Some m) = false

abbrev pub free_slot : List (Option (List ℕ)) → Option ℕ
free_slot [] = None
free_slot (o ∷ os) = if is_vacant o then Some 0 else one_further (free_slot os)

-- The slots once a name was given one, if there was one for it. A name that becomes known is given the lowest free
-- slot.
abbrev pub with_name : Option ℕ → List ℕ → List (Option (List ℕ)) → List (Option (List ℕ))
with_name None n names = names
with_name (Some slot) n names = slice_set names slot (Some n)

abbrev pub named : List ℕ → List (Option (List ℕ)) → List (Option (List ℕ))
named n names = with_name (free_slot names) n names

-- the slots once the slot of a name was freed
abbrev pub freed : List ℕ → List (Option (List ℕ)) → List (Option (List ℕ))
freed n names = map (λ o. if holds n o then None else o) names

-- the slots of a member that knows no other
abbrev pub own_slots : List ℕ → List (Option (List ℕ))
own_slots own = Some own ∷ replicate most_others None
