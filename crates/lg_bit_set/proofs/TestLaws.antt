-- The flags of those entries of a row that pass a test. Callers have these laws.
use Rattle.std.proofs.Common.{
  ◌≡◌,
  ◌≢◌,
  ℕ,
  zero,
  suc,
  ◌+◌,
  ◌-◌,
  ◌<◌,
  ◌≤◌,
  Bool,
  true,
  false,
  cond,
  not,
  ◌&&◌,
  List,
  [],
  ◌∷◌,
  ◌++◌,
  length,
  get_or,
  set,
  take,
  replicate,
  map,
  refl,
  sym,
  ap,
  ◌∙◌,
  arith,
  append_assoc,
  length-append,
}
use Rattle.std.specs.Prelude.{nat_lt}
use Rattle.std.specs.List.{insert, remove, filter, count_by}
use Rattle.std.proofs.Math.Numerals.{add-one}
use Rattle.std.proofs.lemmas.Bool.{lt-ltb, le-ltb}
use Rattle.std.proofs.lemmas.Bool.Decides.{nat_tests}
use Rattle.std.proofs.lemmas.List.{
  ext_get_or,
  length-map,
  length-replicate,
  map-set,
  set-append_left,
  take-replicate,
  replicate_more,
  length-set,
}
use Rattle.std.proofs.lemmas.List.Edits.{length-insert, length-remove}
use Rattle.std.proofs.lemmas.List.Sums.{sum_by-cons}
use Rattle.lg_bit_set.specs.Meaning.Flags.{
  no_flags,
  flags_below,
  flags_by,
  flags_without,
  opened_flags,
  closed_flags,
  entries_in,
  count_set,
}
use Rattle.lg_bit_set.proofs.Below.{length-flags_below, get_or-flags_below}
use Rattle.lg_bit_set.proofs.Numbers.{count_set-append}
use Rattle.lg_bit_set.proofs.Without.{flags_without-append}

module _ {X : Type 0} (test : X → Bool) where
  -- so many flags after those of the row
  padded : ℕ → List X → List Bool
  padded more row = map test row ++ replicate more false

  length-padded : (more : ℕ) (row : List X) → length (padded more row) ≡ length row + more
  unfolding padded
  length-padded more row =
      length-append (map test row) (replicate more false)
      ∙ rw (length-map row test, length-replicate more false) refl

  pub length-flags_by : (row : List X) → length row ≤ 256 → length (flags_by test row) ≡ 256
  unfolding flags_by padded
  length-flags_by row few = length-padded (256 - length row) row ∙ omega arith

  take-padded : (more : ℕ) (row : List X) → take (length row + more) (padded (suc more) row) ≡ padded more row
  unfolding padded
  take-padded more [] =
      let count : 0 + more ≡ more = omega arith in
      ap (λ n. take n (replicate (suc more) false)) count ∙ take-replicate more (suc more) false (omega arith)
  take-padded more (x ∷ row) =
      let count : length (x ∷ row) + more ≡ suc (length row + more) = omega arith in
      ap (λ n. take n (padded (suc more) (x ∷ row))) count ∙ ap (λ l. test x ∷ l) (take-padded more row)

  opened_flags-padded : (more : ℕ) (row : List X) (i : ℕ) (x : X) → i ≤ length row
      → set (opened_flags i (padded (suc more) row)) i (test x) ≡ padded more (insert row i x)
  unfolding padded
  opened_flags-padded more row zero x within =
      let long : length (padded (suc more) row) ≡ suc (length row + more) =
      length-padded (suc more) row ∙ omega arith in
      ap (λ n. set (take n (false ∷ padded (suc more) row)) 0 (test x)) long
      ∙ ap (λ l. test x ∷ l) (take-padded more row)
  opened_flags-padded more [] (suc i) x within = absurd (omega arith)
  opened_flags-padded more (y ∷ row) (suc i) x within = ap (λ l. test y ∷ l) (opened_flags-padded more row i x (omega arith))

  closed_flags-padded : (more : ℕ) (row : List X) (i : ℕ) → i < length row
      → closed_flags i (padded more row) ≡ padded (suc more) (remove row i)
  unfolding padded
  closed_flags-padded more [] i within = absurd (omega arith)
  closed_flags-padded more (y ∷ row) zero within =
      append_assoc (map test row) (replicate more false) (false ∷ [])
      ∙ ap (λ l. map test row ++ l) (replicate_more more false ∙ ap (λ n. replicate n false) (add-one more))
  closed_flags-padded more (y ∷ row) (suc i) within = ap (λ l. test y ∷ l) (closed_flags-padded more row i (omega arith))

  -- an entry is inserted in the row: its place is opened, and its flag set if it passes the test
  pub opened_flags-flags_by : (row : List X) (i : ℕ) (x : X) → length row < 256 → i ≤ length row
      → set (opened_flags i (flags_by test row)) i (test x) ≡ flags_by test (insert row i x)
  unfolding flags_by padded
  opened_flags-flags_by row i x few within =
      let more : 256 - length row ≡ suc (256 - length (insert row i x)) = omega (arith, length-insert row i x within) in
      ap (λ n. set (opened_flags i (padded n row)) i (test x)) more
      ∙ opened_flags-padded (256 - length (insert row i x)) row i x within

  -- an entry is removed from the row: its place is closed
  pub closed_flags-flags_by : (row : List X) (i : ℕ) → length row ≤ 256 → i < length row
      → closed_flags i (flags_by test row) ≡ flags_by test (remove row i)
  unfolding flags_by padded
  closed_flags-flags_by row i few within =
      let more : suc (256 - length row) ≡ 256 - length (remove row i) = omega (arith, length-remove row i within) in
      closed_flags-padded (256 - length row) row i within ∙ ap (λ n. padded n (remove row i)) more

  -- an entry is replaced: its flag is set if the new one passes the test, and cleared if not
  pub set-flags_by : (row : List X) (i : ℕ) (x : X) → i < length row
      → set (flags_by test row) i (test x) ≡ flags_by test (set row i x)
  unfolding flags_by
  set-flags_by row i x within =
      let long = length-map row test in
      set-append_left (map test row) (replicate (256 - length row) false) i (test x) (omega arith)
      ∙ ap (λ l. l ++ replicate (256 - length row) false) (sym (map-set test row i x))
      ∙ ap (λ n. map test (set row i x) ++ replicate (256 - n) false) (sym (length-set row i x))

  entries_in-cons : (flag : Bool) (flags : List Bool) (x : X) (row : List X)
      → entries_in (flag ∷ flags) (x ∷ row) ≡ cond flag (x ∷ entries_in flags row) (entries_in flags row)
  entries_in-cons true flags x row = refl
  entries_in-cons false flags x row = refl

  entries_in-padded : (more : ℕ) (row : List X) → entries_in (padded more row) row ≡ filter test row
  unfolding padded
  entries_in-padded zero [] = refl
  entries_in-padded (suc more) [] = refl
  entries_in-padded more (x ∷ row) =
      entries_in-cons (test x) (padded more row) x row
      ∙ ap (λ l. cond (test x) (x ∷ l) l) (entries_in-padded more row)

  -- the set picks those that pass the test
  pub entries_in-flags_by : (row : List X) → entries_in (flags_by test row) row ≡ filter test row
  unfolding flags_by padded
  entries_in-flags_by row = entries_in-padded (256 - length row) row

  none_set : (more : ℕ) → count_set (replicate more false) ≡ 0
  none_set zero = refl
  none_set (suc more) = none_set more

  count_set-map : (row : List X) → count_set (map test row) ≡ count_by test row
  count_set-map [] = refl
  count_set-map (x ∷ row) =
      sum_by-cons (λ flag. cond flag 1 0) (test x) (map test row)
      ∙ ap (λ n. cond (test x) 1 0 + n) (count_set-map row)
      ∙ sym (sum_by-cons (λ y. cond (test y) 1 0) x row)

  pub count_set-flags_by : (row : List X) → count_set (flags_by test row) ≡ count_by test row
  unfolding flags_by
  count_set-flags_by row =
      omega (
        arith,
        count_set-append (map test row) (replicate (256 - length row) false),
        none_set (256 - length row),
        count_set-map row,
      )

  -- no entry passes the test
  pub no_flags-flags_by : (let none : List X = [] in flags_by test none) ≡ no_flags
  unfolding flags_by no_flags
  no_flags-flags_by = refl

module _ {X : Type 0} (test other : X → Bool) where
  same_flags : (row : List X) (d : X) → ((k : ℕ) → k < length row → other (get_or row k d) ≡ test (get_or row k d))
      → map test row ≡ map other row
  same_flags [] d same = refl
  same_flags (x ∷ row) d same =
      let rest = same_flags row d (λ k within. same (suc k) (omega arith)) in
      let first = same 0 (omega arith) in
      ap (λ l. test x ∷ l) rest ∙ ap (λ flag. flag ∷ map other row) (sym first)

  changed_flags : (more : ℕ) (row : List X) (i : ℕ) (flag : Bool) (d : X) → i < length row
      → other (get_or row i d) ≡ flag
      → ((k : ℕ) → k < length row → k ≢ i → other (get_or row k d) ≡ test (get_or row k d))
      → set (map test row ++ replicate more false) i flag ≡ map other row ++ replicate more false
  changed_flags more [] i flag d within here others = absurd (omega arith)
  changed_flags more (x ∷ row) zero flag d within here others =
      let rest = same_flags row d (λ k below. others (suc k) (omega arith) (omega arith)) in
      ap (λ l. flag ∷ l ++ replicate more false) rest
      ∙ ap (λ b. b ∷ map other row ++ replicate more false) (sym here)
  changed_flags more (x ∷ row) (suc i) flag d within here others =
      let first = others 0 (omega arith) (omega arith) in
      ap (λ b. b ∷ set (map test row ++ replicate more false) i flag) (sym first)
      ∙ ap (λ l. other x ∷ l)
      (changed_flags more row i flag d (omega arith) here (λ k below apart. others (suc k) (omega arith) (omega arith)))

  -- another test differs at one entry alone: its flag is written
  pub changed-flags_by : (row : List X) (i : ℕ) (flag : Bool) (d : X) → i < length row → other (get_or row i d) ≡ flag
      → ((k : ℕ) → k < length row → k ≢ i → other (get_or row k d) ≡ test (get_or row k d))
      → set (flags_by test row) i flag ≡ flags_by other row
  unfolding flags_by
  changed-flags_by row i flag d within here others = changed_flags (256 - length row) row i flag d within here others

  -- a test that agrees at each entry
  pub same-flags_by : (row : List X) (d : X)
      → ((k : ℕ) → k < length row → other (get_or row k d) ≡ test (get_or row k d))
      → flags_by test row ≡ flags_by other row
  unfolding flags_by
  same-flags_by row d same = ap (λ l. l ++ replicate (256 - length row) false) (same_flags row d same)

  without_map : (row : List X) → flags_without (map test row) (map other row) ≡ map (λ x. test x && not (other x)) row
  without_map [] = refl
  without_map (x ∷ row) = ap (λ l. (test x && not (other x)) ∷ l) (without_map row)

  without_none : (more : ℕ) → flags_without (replicate more false) (replicate more false) ≡ replicate more false
  without_none zero = refl
  without_none (suc more) = ap (λ l. false ∷ l) (without_none more)

  -- those that pass one test and not the other
  pub flags_without-flags_by : (row : List X)
      → flags_without (flags_by test row) (flags_by other row) ≡ flags_by (λ x. test x && not (other x)) row
  unfolding flags_by
  flags_without-flags_by row =
      flags_without-append (map test row) (map other row) (replicate (256 - length row) false)
      (replicate (256 - length row) false)
      (length-map row test ∙ sym (length-map row other))
      ∙ rw (without_map row, without_none (256 - length row)) refl

pub none_at : (more i : ℕ) → get_or (replicate more false) i false ≡ false
none_at zero i = refl
none_at (suc more) zero = refl
none_at (suc more) (suc i) = none_at more i

module _ {X : Type 0} where
  all_at : (more : ℕ) (row : List X) (i : ℕ)
      → get_or (map (λ _. true) row ++ replicate more false) i false ≡ nat_lt i (length row)
  all_at more [] i = none_at more i ∙ sym (le-ltb i 0 (omega arith))
  all_at more (x ∷ row) zero = sym (lt-ltb 0 (suc (length row)) (omega arith))
  all_at more (x ∷ row) (suc i) = all_at more row i ∙ grind (arith, nat_tests)

  -- all entries of a row
  pub flags_below-flags_by : (row : List X) → length row ≤ 256 → flags_below (length row) ≡ flags_by (λ _. true) row
  unfolding flags_by
  flags_below-flags_by row few =
      let long = length-flags_below (length row) in
      ext_get_or false (flags_below (length row)) (flags_by (λ _. true) row)
      (long ∙ sym (length-flags_by (λ _. true) row few))
      (λ i within. get_or-flags_below (length row) i (omega arith) ∙ sym (all_at (256 - length row) row i))
