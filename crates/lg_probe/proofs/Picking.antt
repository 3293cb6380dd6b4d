-- Picks by random words, among the entries of a row whose numbers are in a set.
use Rattle.std.proofs.Common.{
  ◌≡◌,
  ℕ,
  zero,
  suc,
  ◌%◌,
  ◌≤◌,
  ◌<◌,
  Bool,
  true,
  false,
  List,
  [],
  ◌∷◌,
  ◌++◌,
  length,
  set,
  take,
  drop,
  get_or,
  Option,
  Some,
  None,
  refl,
  sym,
  ◌∙◌,
  ap,
  inl,
  inr,
  append_assoc,
  append-nil,
  length-append,
  arith,
}
use Rattle.std.specs.Prelude.{slice_get, remove}
use Rattle.std.specs.Option.{option_to_list, option_and_then}
use Rattle.std.proofs.Math.Nat.{mod-lt}
use Rattle.std.proofs.lemmas.Bool.{cases_lt, false≢true}
use Rattle.std.proofs.lemmas.List.Edits.{length-remove}
use Rattle.std.proofs.lemmas.Option.{slice_get-get_or}
use Rattle.lg_bit_set.specs.Meaning.Flags.{count_set, entries_in, nth_number, numbers_of}
use Rattle.lg_bit_set.proofs.Numbers.{count_set-set, count_set-clear}
use Rattle.lg_bit_set.proofs.NumberLaws.{IsNthNumber, IsNthNumber-from, nth_number-within}
use Rattle.lg_bit_set.proofs.EntryLaws.{slice_get-entries_in}
use Rattle.lg_probe.specs.Meaning.Order.{candidate}
use Rattle.lg_probe.specs.Meaning.Helpers.{left_by, picked_by}
use Rattle.lg_probe.specs.Support.Helpers.{AreOfRow}
use Rattle.lg_probe.specs.Support.Order.{IsPart}
use Rattle.lg_probe.proofs.Candidates.{none_in}
use Rattle.lg_probe.proofs.Joining.{drop-next, dropped}
use Rattle.lg_probe.proofs.Parts.{part_is, part_count}

-- flags that say some of the row's names have no other numbers
pub of_row : {row names : List (List ℕ)} {flags : List Bool} → IsPart row names flags → AreOfRow flags row
of_row part = part_count part ∙ ap length (sym (part_is part))

-- a number is taken out of a set: the set has one fewer, and the entry at its index is gone
count_out : (flags : List Bool) (number : ℕ) → get_or flags number false ≡ true
    → count_set flags ≡ suc (count_set (set flags number false))
count_out [] number there = absurd (false≢true there)
count_out (true ∷ flags) zero there = omega (arith, count_set-set flags, count_set-clear flags)
count_out (false ∷ flags) zero there = absurd (false≢true there)
count_out (true ∷ flags) (suc number) there =
    omega (arith, count_set-set flags, count_set-set (set flags number false), count_out flags number there)
count_out (false ∷ flags) (suc number) there =
    omega (arith, count_set-clear flags, count_set-clear (set flags number false), count_out flags number there)

entries_out : (flags : List Bool) (row : List (List ℕ)) (number : ℕ) → number < length row
    → get_or flags number false ≡ true
    → entries_in (set flags number false) row ≡ remove (entries_in flags row) (count_set (take number flags))
entries_out [] row number within there = absurd (false≢true there)
entries_out (flag ∷ flags) [] number within there = absurd (omega arith)
entries_out (true ∷ flags) (x ∷ row) zero within there = refl
entries_out (false ∷ flags) (x ∷ row) zero within there = absurd (false≢true there)
entries_out (true ∷ flags) (x ∷ row) (suc number) within there =
    ap (λ l. x ∷ l) (entries_out flags row number (omega arith) there)
    ∙ ap (remove (x ∷ entries_in flags row))
    (let one : suc (count_set (take number flags)) ≡ count_set (true ∷ take number flags) =
    omega (arith, count_set-set (take number flags)) in one)
entries_out (false ∷ flags) (x ∷ row) (suc number) within there =
    entries_out flags row number (omega arith) there
    ∙ ap (remove (entries_in flags row))
    (let none : count_set (take number flags) ≡ count_set (false ∷ take number flags) =
    omega (arith, count_set-clear (take number flags)) in none)

module _ (flags : List Bool) (row : List (List ℕ)) (of : AreOfRow flags row) (word : ℕ) where
  by_count : word % count_set flags ≡ word % length (entries_in flags row)
  by_count = ap (λ n. word % n) of

  -- no number is chosen if there is none
  pub nothing_left : nth_number flags (word % count_set flags) ≡ None → entries_in flags row ≡ []
  nothing_left none =
      elim (cases_lt 0 (count_set flags)) [
        | inl some ↦ (
            let one = nth_number-within flags (word % count_set flags) (mod-lt word some) in
            absurd (let no : None ≡ Some (get_or (numbers_of flags) (word % count_set flags) 0) = sym none ∙ one in cc))
        | inr few ↦ none_in (entries_in flags row) (omega (arith, few, of))
      ]

  module _ (number : ℕ) (picks : nth_number flags (word % count_set flags) ≡ Some number) where
    nth : IsNthNumber flags (word % count_set flags) number
    nth = IsNthNumber-from flags (word % count_set flags) number picks

    some : 0 < count_set flags
    some = omega (arith, count_out flags number nth.set)

    at : slice_get (entries_in flags row) (word % count_set flags) ≡ slice_get row number
    at =
        slice_get-entries_in flags row (word % count_set flags) ∙ ap (option_and_then (slice_get row)) picks

    pub picked_within : number < length row
    picked_within = in_row row number at
      where
        in_row : (xs : List (List ℕ)) (k : ℕ)
            → slice_get (entries_in flags row) (word % count_set flags) ≡ slice_get xs k → k < length xs
        in_row [] k e =
            let there = slice_get-get_or (entries_in flags row) (word % count_set flags) []
            (omega (arith, of, mod-lt word some)) in
            absurd (let no : Some (get_or (entries_in flags row) (word % count_set flags) []) ≡ None =
            sym there ∙ e in cc)
        in_row (x ∷ xs) zero e = omega arith
        in_row (x ∷ xs) (suc k) e = omega (arith, in_row xs k e)

    pub picked_is : (n : List ℕ) → n ≡ get_or row number n → Some n ≡ candidate word (entries_in flags row)
    picked_is n is =
        ap Some is ∙ sym (slice_get-get_or row number n picked_within) ∙ sym at
        ∙ ap (slice_get (entries_in flags row)) by_count

    pub picked_left : entries_in (set flags number false) row ≡ left_by word (entries_in flags row)
    picked_left =
        entries_out flags row number picked_within nth.set
        ∙ ap (remove (entries_in flags row)) (nth.below ∙ by_count)

    pub picked_of : AreOfRow (set flags number false) row
    picked_of =
        let index : word % count_set flags < length (entries_in flags row) = omega (arith, of, mod-lt word some) in
        omega (
          arith,
          of,
          count_out flags number nth.set,
          ap length (entries_out flags row number picked_within nth.set ∙ ap (remove (entries_in flags row)) nth.below),
          length-remove (entries_in flags row) (word % count_set flags) index,
        )

-- if nothing is left, nothing more is taken
pub left_none : (names : List (List ℕ)) (word : ℕ) → names ≡ [] → names ≡ left_by word names
left_none [] word e = nothing (word % 0)
  where
    nothing : (i : ℕ) → [] ≡ remove (let none : List (List ℕ) = [] in none) i
    nothing zero = refl
    nothing (suc i) = refl
left_none (n ∷ names) word e = absurd (let no : n ∷ names ≡ [] = e in cc)

pub candidate_none : (names : List (List ℕ)) (word : ℕ) → names ≡ [] → None ≡ candidate word names
candidate_none [] word e = nothing (word % 0)
  where
    nothing : (i : ℕ) → None ≡ slice_get (let none : List (List ℕ) = [] in none) i
    nothing zero = refl
    nothing (suc i) = refl
candidate_none (n ∷ names) word e = absurd (let no : n ∷ names ≡ [] = e in cc)

-- the first words have picked these helpers, and left these names
pub record HavePicked (words : List ℕ) (names helpers left : List (List ℕ)) (k : ℕ) : Type 0 where
  pub rest : helpers ++ picked_by (drop k words) left ≡ picked_by words names
  pub few : length helpers ≤ k

pub none_picked : (words : List ℕ) (names helpers : List (List ℕ)) → helpers ≡ []
    → HavePicked words names helpers names 0
none_picked words names helpers e =
    record { rest = ap (λ hs. hs ++ picked_by words names) e; few = omega (arith, ap length e) }

pub next_picked : (words : List ℕ) (names helpers left more after : List (List ℕ)) (k m word : ℕ)
    (one : Option (List ℕ)) → m ≡ suc k → k < length words → word ≡ get_or words k 0
    → HavePicked words names helpers left k → one ≡ candidate word left → after ≡ left_by word left
    → more ≡ helpers ++ option_to_list one → HavePicked words names more after m
next_picked words names helpers left more after k m word one next l e have is gone put =
    let now : drop k words ≡ word ∷ drop (suc k) words =
    drop-next words k 0 l ∙ ap (λ w. w ∷ drop (suc k) words) (sym e) in
    let first = option_to_list (candidate word left) in
    let others = picked_by (drop (suc k) words) (left_by word left) in
    record {
      rest =
          (λ i. (put ∙ ap (λ o. helpers ++ option_to_list o) is) i ++ picked_by (drop (next i) words) (gone i))
          ∙ append_assoc helpers first others ∙ ap (λ ws. helpers ++ picked_by ws left) (sym now) ∙ have.rest;
      few = omega (arith, next, have.few, ap length put, length-append helpers (option_to_list one), at_most_one one);
    }
  where
    at_most_one : (o : Option (List ℕ)) → length (option_to_list o) ≤ 1
    at_most_one None = omega arith
    at_most_one (Some n) = omega arith

pub all_picked : (words : List ℕ) (names helpers left : List (List ℕ)) (k : ℕ) → length words ≤ k
    → HavePicked words names helpers left k → helpers ≡ picked_by words names
all_picked words names helpers left k l have =
    sym (append-nil helpers) ∙ ap (λ ws. helpers ++ picked_by ws left) (sym (dropped words k l)) ∙ have.rest
