-- The entries of a row whose numbers are in a set. Callers have these laws.
use Rattle.std.proofs.Common.{
  ◌≡◌,
  ℕ,
  zero,
  suc,
  ◌<◌,
  ◌≤◌,
  Bool,
  true,
  false,
  List,
  [],
  ◌∷◌,
  ◌++◌,
  length,
  set,
  take,
  Option,
  Some,
  None,
  refl,
  sym,
  ap,
  ◌∙◌,
  arith,
}
use Rattle.std.specs.List.{slice_get, insert, remove}
use Rattle.std.specs.Option.{option_map, option_and_then}
use Rattle.lg_bit_set.specs.Meaning.Flags.{nth_number, count_set, entries_in, opened_flags, closed_flags}
use Rattle.lg_bit_set.proofs.Numbers.{nth_number-next, count_set-set, count_set-clear}

module _ {X : Type 0} where
  pub entries_in-nil : (flags : List Bool) → entries_in flags [] ≡ (let none : List X = [] in none)
  entries_in-nil [] = refl
  entries_in-nil (flag ∷ flags) = refl

  -- flags beyond the row pick nothing
  pub entries_in-take : (count : ℕ) (flags : List Bool) (row : List X) → length row ≤ count
      → entries_in (take count flags) row ≡ entries_in flags row
  entries_in-take zero flags [] few = entries_in-nil (take zero flags) ∙ sym (entries_in-nil flags)
  entries_in-take zero flags (x ∷ row) few = absurd (omega arith)
  entries_in-take (suc count) [] row few = refl
  entries_in-take (suc count) (flag ∷ flags) [] few = refl
  entries_in-take (suc count) (true ∷ flags) (x ∷ row) few = ap (λ l. x ∷ l) (entries_in-take count flags row (omega arith))
  entries_in-take (suc count) (false ∷ flags) (x ∷ row) few = entries_in-take count flags row (omega arith)

  pub entries_in-append : (flags others : List Bool) (row : List X) → length row ≤ length flags
      → entries_in (flags ++ others) row ≡ entries_in flags row
  entries_in-append [] others [] few = entries_in-nil others
  entries_in-append [] others (x ∷ row) few = absurd (omega arith)
  entries_in-append (flag ∷ flags) others [] few = refl
  entries_in-append (true ∷ flags) others (x ∷ row) few = ap (λ l. x ∷ l) (entries_in-append flags others row (omega arith))
  entries_in-append (false ∷ flags) others (x ∷ row) few = entries_in-append flags others row (omega arith)

  -- the entries stay the same if one is inserted and its place is opened in the set
  pub entries_in-opened_flags : (flags : List Bool) (row : List X) (i : ℕ) (x : X) → length row < length flags → i ≤ length row
      → entries_in (opened_flags i flags) (insert row i x) ≡ entries_in flags row
  entries_in-opened_flags [] row i x room within = absurd (omega arith)
  entries_in-opened_flags (flag ∷ flags) row zero x room within = entries_in-take (length flags) (flag ∷ flags) row (omega arith)
  entries_in-opened_flags (flag ∷ flags) [] (suc i) x room within = absurd (omega arith)
  entries_in-opened_flags (true ∷ flags) (y ∷ row) (suc i) x room within =
      ap (λ l. y ∷ l) (entries_in-opened_flags flags row i x (omega arith) (omega arith))
  entries_in-opened_flags (false ∷ flags) (y ∷ row) (suc i) x room within =
      entries_in-opened_flags flags row i x (omega arith) (omega arith)

  -- the others stay the same if one is removed and its place is closed in the set
  pub entries_in-closed_flags : (flags : List Bool) (row : List X) (i : ℕ) → length row ≤ length flags → i < length row
      → entries_in (closed_flags i flags) (remove row i) ≡ entries_in (set flags i false) row
  entries_in-closed_flags [] row i long within = absurd (omega arith)
  entries_in-closed_flags (flag ∷ flags) [] i long within = absurd (omega arith)
  entries_in-closed_flags (flag ∷ flags) (y ∷ row) zero long within = entries_in-append flags (false ∷ []) row (omega arith)
  entries_in-closed_flags (true ∷ flags) (y ∷ row) (suc i) long within =
      ap (λ l. y ∷ l) (entries_in-closed_flags flags row i (omega arith) (omega arith))
  entries_in-closed_flags (false ∷ flags) (y ∷ row) (suc i) long within = entries_in-closed_flags flags row i (omega arith) (omega arith)

  -- as many entries as there are flags set within the row
  pub length-entries_in : (flags : List Bool) (row : List X)
      → length (entries_in flags row) ≡ count_set (take (length row) flags)
  length-entries_in [] [] = refl
  length-entries_in [] (x ∷ row) = refl
  length-entries_in (flag ∷ flags) [] = refl
  length-entries_in (true ∷ flags) (x ∷ row) =
      omega (arith, length-entries_in flags row, count_set-set (take (length row) flags))
  length-entries_in (false ∷ flags) (x ∷ row) =
      omega (arith, length-entries_in flags row, count_set-clear (take (length row) flags))

  nothing : (number : Option ℕ) → None ≡ option_and_then (slice_get (let none : List X = [] in none)) number
  nothing None = refl
  nothing (Some number) = refl

  later : (x : X) (row : List X) (number : Option ℕ)
      → option_and_then (slice_get row) number ≡ option_and_then (slice_get (x ∷ row)) (option_map suc number)
  later x row None = refl
  later x row (Some number) = refl

  -- the entry at an index among those in the set is the one whose number is at that index in the set
  pub slice_get-entries_in : (flags : List Bool) (row : List X) (index : ℕ)
      → slice_get (entries_in flags row) index ≡ option_and_then (slice_get row) (nth_number flags index)
  slice_get-entries_in [] row index = refl
  slice_get-entries_in (flag ∷ flags) [] index = nothing (nth_number (flag ∷ flags) index)
  slice_get-entries_in (true ∷ flags) (x ∷ row) zero = refl
  slice_get-entries_in (true ∷ flags) (x ∷ row) (suc index) =
      slice_get-entries_in flags row index ∙ later x row (nth_number flags index)
      ∙ ap (option_and_then (slice_get (x ∷ row))) (sym (nth_number-next 0 flags index))
  slice_get-entries_in (false ∷ flags) (x ∷ row) index =
      slice_get-entries_in flags row index ∙ later x row (nth_number flags index)
      ∙ ap (option_and_then (slice_get (x ∷ row))) (sym (nth_number-next 0 flags index))
