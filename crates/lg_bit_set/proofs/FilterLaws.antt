-- The number at an index of a set of entries that pass a test is that of the entry at that index among them. Callers
-- have these laws.
use Rattle.std.proofs.Common.{
  ◌≡◌,
  ℕ,
  zero,
  suc,
  ◌-◌,
  ◌<◌,
  ◌≤◌,
  Bool,
  true,
  false,
  not,
  List,
  [],
  ◌∷◌,
  ◌++◌,
  length,
  get_or,
  map,
  replicate,
  Some,
  None,
  refl,
  sym,
  ap,
  ◌∙◌,
  inl,
  inr,
  arith,
}
use Rattle.std.specs.List.{slice_get, filter}
use Rattle.std.specs.Option.{option_and_then}
use Rattle.std.proofs.lemmas.Bool.{cases_lt}
use Rattle.std.proofs.lemmas.List.Sums.{length-filter}
use Rattle.std.proofs.lemmas.Option.{slice_get-get_or}
use Rattle.lg_bit_set.specs.Meaning.Flags.{flags_by, flags_below, flags_without, nth_number, count_set}
use Rattle.lg_bit_set.proofs.NumberLaws.{IsNthNumber, IsNthNumber-from}
use Rattle.lg_bit_set.proofs.EntryLaws.{slice_get-entries_in}
use Rattle.lg_bit_set.proofs.TestLaws.{
  none_at,
  entries_in-flags_by,
  count_set-flags_by,
  flags_below-flags_by,
  flags_without-flags_by,
}

-- An entry of a row passes a test, and is at an index among those that do.
pub record IsEntryAt {X : Type 0} (test : X → Bool) (row : List X) (d : X) (index number : ℕ) : Type 0 where
  pub within : number < length row
  pub passes : test (get_or row number d) ≡ true
  pub entry : slice_get (filter test row) index ≡ Some (get_or row number d)

module _ {X : Type 0} (test : X → Bool) where
  flag_within : (more : ℕ) (row : List X) (i : ℕ) (d : X) → i < length row
      → get_or (map test row ++ replicate more false) i false ≡ test (get_or row i d)
  flag_within more [] i d within = absurd (omega arith)
  flag_within more (x ∷ row) zero d within = refl
  flag_within more (x ∷ row) (suc i) d within = flag_within more row i d (omega arith)

  flag_past : (more : ℕ) (row : List X) (i : ℕ) → length row ≤ i
      → get_or (map test row ++ replicate more false) i false ≡ false
  flag_past more [] i past = none_at more i
  flag_past more (x ∷ row) zero past = absurd (omega arith)
  flag_past more (x ∷ row) (suc i) past = flag_past more row i (omega arith)

  -- the flag of an entry says whether it passes, and there are no others
  pub get_or-flags_by : (row : List X) (i : ℕ) (d : X) → i < length row
      → get_or (flags_by test row) i false ≡ test (get_or row i d)
  unfolding flags_by
  get_or-flags_by row i d within = flag_within (256 - length row) row i d within

  pub get_or-flags_by_past : (row : List X) (i : ℕ) → length row ≤ i → get_or (flags_by test row) i false ≡ false
  unfolding flags_by
  get_or-flags_by_past row i past = flag_past (256 - length row) row i past

  pub slice_get-filter : (row : List X) (index : ℕ)
      → slice_get (filter test row) index ≡ option_and_then (slice_get row) (nth_number (flags_by test row) index)
  slice_get-filter row index =
      ap (λ l. slice_get l index) (sym (entries_in-flags_by test row)) ∙ slice_get-entries_in (flags_by test row) row index

  set_within : (row : List X) (number : ℕ) → get_or (flags_by test row) number false ≡ true → number < length row
  set_within row number set =
      elim (cases_lt number (length row)) [
        | inl within ↦ within
        | inr past ↦ let clear = get_or-flags_by_past row number past in cc
      ]

  pub IsEntryAt-from : (row : List X) (d : X) (index number : ℕ) → nth_number (flags_by test row) index ≡ Some number
      → IsEntryAt test row d index number
  IsEntryAt-from row d index number e =
      let is : IsNthNumber (flags_by test row) index number = IsNthNumber-from (flags_by test row) index number e in
      let within : number < length row = set_within row number is.set in
      record {
        within = within;
        passes = sym (get_or-flags_by row number d within) ∙ is.set;
        entry = slice_get-filter row index ∙ ap (option_and_then (slice_get row)) e
            ∙ slice_get-get_or row number d within;
      }

  pub no_entry_at : (row : List X) (index : ℕ) → nth_number (flags_by test row) index ≡ None
      → slice_get (filter test row) index ≡ None
  no_entry_at row index e = slice_get-filter row index ∙ ap (option_and_then (slice_get row)) e

  -- as many numbers as there are entries that pass
  pub length-filter-flags_by : (row : List X) → length (filter test row) ≡ count_set (flags_by test row)
  length-filter-flags_by row = length-filter test row ∙ sym (count_set-flags_by test row)

  -- all entries of a row without those that pass
  pub flags_below-without : (row : List X) → length row ≤ 256
      → flags_without (flags_below (length row)) (flags_by test row) ≡ flags_by (λ x. not (test x)) row
  flags_below-without row few =
      ap (λ l. flags_without l (flags_by test row)) (flags_below-flags_by row few)
      ∙ flags_without-flags_by (λ _. true) test row
