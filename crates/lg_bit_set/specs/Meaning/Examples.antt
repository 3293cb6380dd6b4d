-- Worked rows: what the definitions give for some flags.
use Rattle.std.specs.Prelude.{◌≡◌, ℕ, true, false, [], ◌∷◌, Some, None, refl, take, nat_lt}
use Rattle.lg_bit_set.specs.Meaning.Flags.{
  count_set,
  numbers_of,
  nth_number,
  flags_without,
  flags_below,
  flags_by,
  entries_in,
  opened_flags,
  closed_flags,
}

three : count_set (true ∷ false ∷ true ∷ true ∷ []) ≡ 3
three = refl

their_numbers : numbers_of (true ∷ false ∷ true ∷ true ∷ []) ≡ 0 ∷ 2 ∷ 3 ∷ []
their_numbers = refl

the_second : nth_number (true ∷ false ∷ true ∷ true ∷ []) 1 ≡ Some 2
the_second = refl

no_fourth : nth_number (true ∷ false ∷ true ∷ true ∷ []) 3 ≡ None
no_fourth = refl

one_left : flags_without (true ∷ true ∷ false ∷ false ∷ []) (true ∷ false ∷ true ∷ false ∷ [])
    ≡ false ∷ true ∷ false ∷ false ∷ []
one_left = refl

two_of_three : entries_in {X = ℕ} (true ∷ false ∷ true ∷ []) (7 ∷ 8 ∷ 9 ∷ []) ≡ 7 ∷ 9 ∷ []
two_of_three = refl

a_place_opened : opened_flags 1 (true ∷ true ∷ false ∷ true ∷ []) ≡ true ∷ false ∷ true ∷ false ∷ []
a_place_opened = refl

a_place_closed : closed_flags 1 (true ∷ true ∷ false ∷ true ∷ []) ≡ true ∷ false ∷ true ∷ false ∷ []
a_place_closed = refl

-- a name that joins isn't in the set, and the others stay in it
the_same_names : entries_in {X = ℕ} (opened_flags 1 (true ∷ true ∷ false ∷ [])) (7 ∷ 8 ∷ 9 ∷ []) ≡ 7 ∷ 9 ∷ []
the_same_names = refl

two_below : take 3 (flags_below 2) ≡ true ∷ true ∷ false ∷ []
unfolding flags_below
two_below = refl

those_that_pass : take 3 (flags_by (λ (n : ℕ). nat_lt n 8) (9 ∷ 7 ∷ [])) ≡ false ∷ true ∷ false ∷ []
unfolding flags_by
those_that_pass = refl
