-- Worked rows of slots and of forgetting: what the definitions give for some facts. A past has the latest fact first.
use Rattle.std.specs.Prelude.{◌≡◌, ℕ, Bool, true, false, List, [], ◌∷◌, map, take, Option, Some, None, refl}
use Rattle.std.specs.List.{range_with_len}
use Rattle.lg_rules.specs.declared.claim.Claim.{Claim}
use Rattle.lg_rules.specs.declared.claim.Status.TheVariants.{Alive, Failed, Left}
use Rattle.lg_rules.specs.declared.members.Heard.TheVariants.{Overrode, Same, Ignored, NoRoom}
use Rattle.lg_rules.specs.Meaning.Examples.{a, b, c, d, e, accused_by, on}
use Rattle.lg_rules.specs.Meaning.Own.{OwnFact, Told, Forgets}
use Rattle.lg_rules.specs.Meaning.Slots.{slot_in, named}
use Rattle.lg_rules.specs.Meaning.Table.{MembersValue, story, record_of, roster, table_of, names_by_slot}
use Rattle.lg_rules.specs.Meaning.Table.{takes, hearing_of}
use Rattle.lg_rules.specs.Meaning.Table.{members_heard, members_forgot, slot_given_back, table_needs_room}

-- The slots of b. It hears of c, then of a, of c again, of itself, and of e: c has slot 1, a has 2, and e has 3.
abbrev heard_of : List OwnFact
heard_of = map Told (on e Alive 0 ∷ on b (accused_by a) 0 ∷ on c (accused_by a) 4 ∷ on a Alive 0 ∷ on c Alive 4 ∷ [])

abbrev first_slots : List OwnFact → List (Option (List ℕ))
first_slots past = take 5 (names_by_slot true (b ∷ []) past)

abbrev names_of_b : List (Option (List ℕ))
names_of_b = Some (b ∷ []) ∷ Some (c ∷ []) ∷ Some (a ∷ []) ∷ Some (e ∷ []) ∷ None ∷ []

by_appearance : first_slots heard_of ≡ names_of_b
unfolding names_by_slot roster
by_appearance = refl

own_slot : slot_in (b ∷ []) names_of_b ≡ Some 0
own_slot = refl

slot_of_the_first : slot_in (c ∷ []) names_of_b ≡ Some 1
slot_of_the_first = refl

slot_of_the_last : slot_in (e ∷ []) names_of_b ≡ Some 3
slot_of_the_last = refl

no_slot : slot_in (d ∷ []) names_of_b ≡ None
no_slot = refl

gets_the_lowest_free_slot : slot_in (d ∷ []) (named (d ∷ []) names_of_b) ≡ Some 4
gets_the_lowest_free_slot = refl

-- c failed and is forgotten. Its slot is free, the others keep theirs, and the next new name gets it.
slot_is_free :
    first_slots (Forgets (c ∷ []) ∷ Told (on c Failed 4) ∷ heard_of)
    ≡ Some (b ∷ []) ∷ None ∷ Some (a ∷ []) ∷ Some (e ∷ []) ∷ None ∷ []
unfolding names_by_slot roster
slot_is_free = refl

slot_is_given_anew :
    first_slots (Told (on d Alive 0) ∷ Forgets (c ∷ []) ∷ Told (on c Failed 4) ∷ heard_of)
    ≡ Some (b ∷ []) ∷ Some (d ∷ []) ∷ Some (a ∷ []) ∷ Some (e ∷ []) ∷ None ∷ []
unfolding names_by_slot roster
slot_is_given_anew = refl

-- b doesn't forget itself
keeps_the_own_slot : first_slots (Forgets (b ∷ []) ∷ heard_of) ≡ names_of_b
unfolding names_by_slot roster
keeps_the_own_slot = refl

-- What b knows of c. c left at 4 and is forgotten: what was said before counts for nothing.
table_once_forgotten :
    table_of true (b ∷ []) (Forgets (c ∷ []) ∷ Told (on c Left 4) ∷ heard_of)
    ≡ on a Alive 0 ∷ on e Alive 0 ∷ []
unfolding table_of record_of story roster
table_once_forgotten = refl

-- Then claims come that say that it left or failed, from members that still know it: c stays unknown. An old claim that
-- says that it is alive makes it known, though its incarnation is smaller.
abbrev left_again : List OwnFact
left_again = Told (on c Failed 5) ∷ Told (on c Left 4) ∷ Forgets (c ∷ []) ∷ Told (on c Left 4) ∷ heard_of

stays_unknown : record_of true (b ∷ []) left_again (c ∷ []) ≡ None
unfolding record_of story roster
stays_unknown = refl

comes_back_from_nothing :
    record_of true (b ∷ []) (Told (on c Alive 0) ∷ left_again) (c ∷ []) ≡ Some (on c Alive 0)
unfolding record_of story roster
comes_back_from_nothing = refl

-- the claims that count then are those since that one
what_counts :
    story true (b ∷ []) (Told (on c Left 4) ∷ Told (on c Alive 0) ∷ left_again) (c ∷ [])
    ≡ on c Left 4 ∷ on c Alive 0 ∷ []
unfolding story roster
what_counts = refl

-- a member that doesn't forget hears of c that it failed, and knows it
failed_makes_known : table_of false (b ∷ []) (Told (on c Failed 5) ∷ []) ≡ on c Failed 5 ∷ []
unfolding table_of record_of story roster
failed_makes_known = refl

-- b knows a, and hears a claim about c
heard_without_forgetting : hearing_of false (on a Alive 0 ∷ []) (on c Failed 5) ≡ Overrode
unfolding takes
heard_without_forgetting = refl

ignored_with_forgetting : hearing_of true (on a Alive 0 ∷ []) (on c Failed 5) ≡ Ignored
unfolding takes
ignored_with_forgetting = refl

ignored_that_left : hearing_of true (on a Alive 0 ∷ []) (on c Left 5) ≡ Ignored
unfolding takes
ignored_that_left = refl

taken_that_is_suspected : hearing_of true (on a Alive 0 ∷ []) (on c (accused_by a) 5) ≡ Overrode
unfolding takes
taken_that_is_suspected = refl

-- about a member that is known all is as without forgetting
failed_again : hearing_of true (on c Failed 5 ∷ []) (on c Failed 5) ≡ Same
unfolding takes
failed_again = refl

left_over_failed : hearing_of true (on c Failed 5 ∷ []) (on c Left 5) ≡ Overrode
unfolding takes
left_over_failed = refl

-- Room: b knows 255 others, whose names are one number each, and all are alive but the first, which failed.
abbrev numbered_claim : ℕ → Claim
numbered_claim n = record (on a Alive 0) { name = n ∷ [] }

abbrev full_table : List Claim
full_table = record (numbered_claim 300) { status = Failed } ∷ map numbered_claim (range_with_len 301 254)

abbrev full_b : Bool → MembersValue
full_b forgets = record {
  own = b ∷ [];
  forgets = forgets;
  table = full_table;
  names = Some (b ∷ []) ∷ map (λ (n : ℕ). Some (n ∷ [])) (range_with_len 300 255);
}

no_room : hearing_of true full_table (on c Alive 0) ≡ NoRoom
unfolding takes
no_room = refl

no_room_without_forgetting : hearing_of false full_table (on c Failed 0) ≡ NoRoom
unfolding takes
no_room_without_forgetting = refl

ignored_in_a_full_table : hearing_of true full_table (on c Failed 0) ≡ Ignored
unfolding takes
ignored_in_a_full_table = refl

alive_needs_room : table_needs_room (full_b true) (on c Alive 0) ≡ true
alive_needs_room = refl

suspect_needs_room : table_needs_room (full_b true) (on c (accused_by a) 0) ≡ true
suspect_needs_room = refl

failed_needs_none : table_needs_room (full_b true) (on c Failed 0) ≡ false
failed_needs_none = refl

known_needs_none : table_needs_room (full_b true) (numbered_claim 301) ≡ false
known_needs_none = refl

needs_none_without_forgetting : table_needs_room (full_b false) (on c Alive 0) ≡ false
needs_none_without_forgetting = refl

-- the first is forgotten: its slot is free, and c gets it
gives_its_slot_back : slot_given_back (300 ∷ []) (full_b true) ≡ Some 1
gives_its_slot_back = refl

then_there_is_room : hearing_of true (members_forgot (300 ∷ []) (full_b true)).table (on c Alive 0) ≡ Overrode
unfolding takes
then_there_is_room = refl

and_the_slot_is_taken :
    slot_in (c ∷ []) (members_heard (members_forgot (300 ∷ []) (full_b true)) (on c Alive 0)).names ≡ Some 1
unfolding takes
and_the_slot_is_taken = refl
