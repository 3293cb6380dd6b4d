-- What a member knows that never forgets. It is the same as in `Meaning/Table.antt`, said without the forgetting, of
-- which `nothing_is_forgotten` is the law. A past has the latest claim first.
use Rattle.std.specs.Prelude.{ℕ, ◌-◌, not, List, ◌∷◌, ◌++◌, length, map, filter, replicate, reverse, Option, Some, None}
use Rattle.lg_rules.specs.declared.claim.Claim.{Claim}
use Rattle.lg_rules.specs.Meaning.Beats.{beats_of}
use Rattle.lg_rules.specs.Meaning.Bounds.{most_members, most_others}
use Rattle.lg_rules.specs.Meaning.Claim.{name_of}
use Rattle.lg_rules.specs.Meaning.Past.{earliest_unbeaten, oldest}
use Rattle.lg_rules.specs.Meaning.Rows.{name_cmp, is_same, in_order, distinct}

-- the claims of a past about a member, and those about all members but this one
abbrev pub about : List ℕ → List Claim → List Claim
about m past = filter (λ c. is_same name_cmp c.name m) past

abbrev pub about_others : List ℕ → List Claim → List Claim
about_others own past = filter (λ c. not (is_same name_cmp c.name own)) past

-- the names of the claims about others, the latest first
abbrev pub names_said : List ℕ → List Claim → List (List ℕ)
names_said own past = map name_of (about_others own past)

-- The other members that are known: the first 255 different names of claims about others (this project's choice). Here
-- they are in the order of names.
unfoldable pub first_known : List ℕ → List Claim → List (List ℕ)
first_known own past = in_order name_cmp (oldest most_others (distinct name_cmp (names_said own past)))

-- the record of a member: the earliest claim about it that no claim about it overrides (SWIM, section 4.2)
unfoldable pub first_record : List Claim → List ℕ → Option Claim
first_record past m = earliest_unbeaten beats_of (about m past)

-- The known names by slots: this member's own name, and then each other name that is known, the first that was heard of
-- first. The other slots are free.
abbrev pub in_slots : List (List ℕ) → List (Option (List ℕ))
in_slots names = map Some names ++ replicate (most_members - length names) None

unfoldable pub slots_by_appearance : List ℕ → List Claim → List (Option (List ℕ))
slots_by_appearance own past =
    in_slots (own ∷ reverse (oldest most_others (distinct name_cmp (names_said own past))))
