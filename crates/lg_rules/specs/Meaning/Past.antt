-- Definitions on a past, which is a list with the latest element first.
use Rattle.std.specs.Prelude.{ℕ, ◌-◌, Bool, not, List, [], ◌∷◌, length}
use Rattle.std.specs.Prelude.{drop, Option, Some, None, if◌then◌else◌}
use Rattle.std.specs.List.{list_any}

-- the first option if it has a value, or else the second
abbrev pub or_else : {A : Type 0} → Option A → Option A → Option A
or_else None o = o
or_else (Some x) o = Some x

-- the earliest element that passes a test
abbrev pub earliest : {A : Type 0} → (A → Bool) → List A → Option A
earliest test [] = None
earliest test (x ∷ past) = or_else (earliest test past) (if test x then Some x else None)

-- whether no element of a past beats this one
abbrev pub is_unbeaten : {A : Type 0} → (A → A → Bool) → List A → A → Bool
is_unbeaten beats past x = not (list_any (λ y. beats y x) past)

-- the earliest element that no element beats
abbrev pub earliest_unbeaten : {A : Type 0} → (A → A → Bool) → List A → Option A
earliest_unbeaten beats past = earliest (is_unbeaten beats past) past

-- the first n elements that came
abbrev pub oldest : {A : Type 0} → ℕ → List A → List A
oldest n past = drop (length past - n) past
