-- Worked rows: what the definitions give for some accusers.
use Rattle.std.specs.Prelude.{◌≡◌, ℕ, true, false, List, [], ◌∷◌, map, Some, refl}
use Rattle.lg_timing.specs.Meaning.Tables.{ratio_of}
use Rattle.lg_timing.specs.Meaning.TimeoutValue.{TimeoutValue}
use Rattle.lg_timing.specs.Meaning.Timeouts.{timeout_of}
use Rattle.lg_suspicion.specs.Meaning.Accusers.{counted_accusers, suspicion_after, deadline_of, deadline_by_set, set_of}
use Rattle.lg_suspicion.specs.Meaning.Accusers.{standing_of_suspicion}
use Rattle.lg_suspicion.specs.Meaning.Parts.{SuspicionParts, accuser_count, accusers_by}
use Rattle.lg_suspicion.specs.Meaning.Parts.{deadline_of_parts, parts_without}

abbrev d : List ℕ
d = 100 ∷ []

abbrev e : List ℕ
e = 101 ∷ []

-- five members, three confirmations
abbrev five : TimeoutValue
five = record { min = 5000; max = 30000; confirmations = 3 }

-- d accuses twice, and then e
two_accusers : counted_accusers 3 (e ∷ d ∷ d ∷ []) ≡ d ∷ e ∷ []
unfolding counted_accusers
two_accusers = refl

confirmed_once : deadline_of (suspicion_after 2000 five (e ∷ d ∷ d ∷ [])) ≡ 19500
unfolding counted_accusers timeout_of ratio_of
confirmed_once = refl

-- so one confirmation came
standing_once :
    standing_of_suspicion (suspicion_after 2000 five (e ∷ d ∷ d ∷ []))
    ≡ record { raised = 2000; timeout = five; confirmations = 1 }
unfolding counted_accusers
standing_once = refl

by_the_set : deadline_by_set 2000 five (set_of (e ∷ d ∷ d ∷ [])) ≡ 19500
unfolding timeout_of ratio_of
by_the_set = refl

-- of six accusers the first four count
abbrev six : List (List ℕ)
six = (102 ∷ []) ∷ (101 ∷ []) ∷ (100 ∷ []) ∷ (99 ∷ []) ∷ (98 ∷ []) ∷ (97 ∷ []) ∷ []

first_four : counted_accusers 3 six ≡ (97 ∷ []) ∷ (98 ∷ []) ∷ (99 ∷ []) ∷ (100 ∷ []) ∷ []
unfolding counted_accusers
first_four = refl

-- if no confirmation may count, the first accuser alone counts
first_alone : counted_accusers 0 six ≡ (97 ∷ []) ∷ []
unfolding counted_accusers
first_alone = refl

-- The member at slot 2 accuses, and e, which isn't known. Once e is known, it is still one accuser.
kept : SuspicionParts
kept = record {
  raised = 2000;
  timeout = five;
  members = false ∷ false ∷ true ∷ [];
  named = e ∷ [];
}

their_names : accusers_by (Some (97 ∷ []) ∷ Some (99 ∷ []) ∷ Some (102 ∷ []) ∷ []) kept ≡ e ∷ (102 ∷ []) ∷ []
unfolding kept
their_names = refl

later_names : accusers_by (Some (97 ∷ []) ∷ Some (99 ∷ []) ∷ Some (102 ∷ []) ∷ Some e ∷ []) kept ≡ e ∷ (102 ∷ []) ∷ []
unfolding kept
later_names = refl

-- The member at slot 2 is forgotten, and d gets this slot: the accusers are those that they were, and the deadline
-- stays.
after_forgetting :
    accusers_by (Some (97 ∷ []) ∷ Some (99 ∷ []) ∷ Some d ∷ []) (parts_without 2 (102 ∷ []) kept)
    ≡ e ∷ (102 ∷ []) ∷ []
unfolding kept
after_forgetting = refl

deadline_after_forgetting : deadline_of_parts (parts_without 2 (102 ∷ []) kept) ≡ 19500
unfolding kept timeout_of ratio_of
deadline_after_forgetting = refl

-- a member at another slot is forgotten
another_forgotten : parts_without 1 (99 ∷ []) kept ≡ kept
unfolding kept
another_forgotten = refl

-- Among five members c is suspected by d at 0, as its first accuser. Then x accuses, and is a confirmation; d again,
-- who isn't, whether it was forgotten or not; and e, who is.
abbrev x : List ℕ
x = 120 ∷ []

deadlines_of_each :
    map (λ past. deadline_of (suspicion_after 0 five past))
    ((d ∷ []) ∷ (x ∷ d ∷ []) ∷ (d ∷ x ∷ d ∷ []) ∷ (e ∷ d ∷ x ∷ d ∷ []) ∷ [])
    ≡ 30000 ∷ 17500 ∷ 17500 ∷ 10200 ∷ []
unfolding counted_accusers timeout_of ratio_of
deadlines_of_each = refl

two_count : accuser_count kept ≡ 2
unfolding kept
two_count = refl

their_deadline : deadline_of_parts kept ≡ 19500
unfolding kept timeout_of ratio_of
their_deadline = refl
