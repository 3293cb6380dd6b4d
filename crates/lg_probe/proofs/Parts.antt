-- Flags that say which entries of a row are among some names.
use Rattle.std.proofs.Common.{
  ◌≡◌,
  ◌≢◌,
  ℕ,
  zero,
  suc,
  ◌<◌,
  ◌≤◌,
  Bool,
  true,
  false,
  not,
  ◌&&◌,
  ◌||◌,
  List,
  [],
  ◌∷◌,
  length,
  get_or,
  set,
  refl,
  sym,
  ap,
  ◌∙◌,
  subst,
  inl,
  inr,
  arith,
}
use Rattle.std.specs.Prelude.{filter, insert, remove}
use Rattle.std.proofs.lemmas.Bool.{cases_Bool, cases_lt, false≢true}
use Rattle.std.proofs.lemmas.List.{ext_get_or}
use Rattle.lg_bit_set.specs.Meaning.Flags.{
  no_flags,
  flags_below,
  flags_by,
  count_set,
  entries_in,
  opened_flags,
  closed_flags,
}
use Rattle.lg_bit_set.proofs.SetFlags.{length-no_flags}
use Rattle.lg_bit_set.proofs.FilterLaws.{get_or-flags_by, get_or-flags_by_past, length-filter-flags_by}
use Rattle.lg_bit_set.proofs.TestLaws.{
  length-flags_by,
  entries_in-flags_by,
  changed-flags_by,
  same-flags_by,
  opened_flags-flags_by,
  closed_flags-flags_by,
  flags_below-flags_by,
  none_at,
}
use Rattle.lg_rules.specs.Meaning.Rows.{name_cmp, is_same, is_among, put_key, Rises}
use Rattle.lg_rules.proofs.KeyOrder.{names_order, key_is, same_key, other_key}
use Rattle.lg_rules.proofs.Rises.{
  rises-put,
  rises-filter,
  among-put,
  among-put_same,
  among-put_other,
  among-filter,
  among-cons_same,
  among-later,
  not_among,
  same_members,
}
use Rattle.lg_rules.proofs.Tests.{both}
use Rattle.lg_probe.specs.Meaning.Order.{without}
use Rattle.lg_probe.specs.Support.Order.{IsPart}
use Rattle.lg_probe.proofs.NameRows.{among_all}

-- those that pass two tests
pub filter_both : (p q : List ℕ → Bool) (xs : List (List ℕ)) → filter (λ x. p x && q x) xs ≡ filter q (filter p xs)
filter_both p q [] = refl
filter_both p q (x ∷ xs) =
    elim (cases_Bool (p x)) [
      | inl t ↦ elim (cases_Bool (q x)) [
        | inl u ↦ rw (t, u) (ap (λ l. x ∷ l) (filter_both p q xs))
        | inr v ↦ rw (t, v) (filter_both p q xs)
      ]
      | inr f ↦ rw f (filter_both p q xs)
    ]

-- the name at a place is among the names
pub among_get : (row : List (List ℕ)) (i : ℕ) (d : List ℕ) → i < length row
    → is_among name_cmp (get_or row i d) row ≡ true
among_get [] i d within = absurd (omega arith)
among_get (x ∷ row) zero d within = among-cons_same names_order x x row refl
among_get (x ∷ row) (suc i) d within = among-later names_order (get_or row i d) x row (among_get row i d (omega arith))

-- names in rising order differ
pub rises_apart : (row : List (List ℕ)) (i k : ℕ) (d : List ℕ) → Rises name_cmp row → i < length row → k < length row
    → k ≢ i → get_or row i d ≢ get_or row k d
rises_apart [] i k d rises within also apart same = absurd (omega arith)
rises_apart (x ∷ row) zero zero d rises within also apart same = apart refl
rises_apart (x ∷ row) zero (suc k) d rises within also apart same =
    let first : is_among name_cmp (get_or row k d) row ≡ false =
    subst (λ n. is_among name_cmp n row ≡ false) same (not_among names_order x row rises.0) in
    false≢true (sym first ∙ among_get row k d (omega arith))
rises_apart (x ∷ row) (suc i) zero d rises within also apart same =
    let first : is_among name_cmp (get_or row i d) row ≡ false =
    subst (λ n. is_among name_cmp n row ≡ false) (sym same) (not_among names_order x row rises.0) in
    false≢true (sym first ∙ among_get row i d (omega arith))
rises_apart (x ∷ row) (suc i) (suc k) d rises within also apart same =
    rises_apart row i k d rises.1 (omega arith) (omega arith) (λ e. apart (ap suc e)) same

-- a place that was opened is clear
set_opened : (flags : List Bool) (i : ℕ) → set (opened_flags i flags) i false ≡ opened_flags i flags
set_opened [] zero = refl
set_opened [] (suc i) = refl
set_opened (flag ∷ flags) zero = refl
set_opened (flag ∷ flags) (suc i) = ap (λ l. flag ∷ l) (set_opened flags i)

module _ {row names : List (List ℕ)} {flags : List Bool} where
  -- the flags say the names
  pub part_is : IsPart row names flags → entries_in flags row ≡ names
  part_is part =
      ap (λ f. entries_in f row) part.flagged ∙ entries_in-flags_by (λ n. is_among name_cmp n names) row ∙ sym part.all

  pub part_self : IsPart row names flags → IsPart row (entries_in flags row) flags
  part_self part = subst (λ (l : List (List ℕ)). IsPart row l flags) (sym (part_is part)) part

  pub part_count : IsPart row names flags → count_set flags ≡ length names
  part_count part =
      ap count_set part.flagged ∙ sym (length-filter-flags_by (λ n. is_among name_cmp n names) row)
      ∙ ap length (sym part.all)

  pub part_long : IsPart row names flags → length row ≤ 256 → length flags ≡ 256
  part_long part few = ap length part.flagged ∙ length-flags_by (λ n. is_among name_cmp n names) row few

  pub part_flag : IsPart row names flags → (i : ℕ) (n : List ℕ) → i < length row → get_or row i [] ≡ n
      → get_or flags i false ≡ is_among name_cmp n names
  part_flag part i n within named =
      ap (λ f. get_or f i false) part.flagged ∙ get_or-flags_by (λ n. is_among name_cmp n names) row i [] within
      ∙ ap (λ m. is_among name_cmp m names) named

  pub part_past : IsPart row names flags → (i : ℕ) → length row ≤ i → get_or flags i false ≡ false
  part_past part i past =
      ap (λ f. get_or f i false) part.flagged ∙ get_or-flags_by_past (λ n. is_among name_cmp n names) row i past

  pub part_rises : Rises name_cmp row → IsPart row names flags → Rises name_cmp names
  part_rises rises part =
      subst (Rises name_cmp) (sym part.all) (rises-filter names_order (λ n. is_among name_cmp n names) row rises)

  -- each of the names is in the row
  pub part_within : IsPart row names flags → (k : List ℕ) → is_among name_cmp k names ≡ true
      → is_among name_cmp k row ≡ true
  part_within part k a =
      let p : List ℕ → Bool = λ n. is_among name_cmp n names in
      (both (p k) (is_among name_cmp k row)
      (sym (ap (is_among name_cmp k) part.all ∙ among-filter names_order p k row) ∙ a)).1

-- names that are all in the row, and flags that say which they are
pub part_of : (row names : List (List ℕ)) (flags : List Bool) → Rises name_cmp row → Rises name_cmp names
    → ((k : List ℕ) → is_among name_cmp k names ≡ true → is_among name_cmp k row ≡ true)
    → flags ≡ flags_by (λ n. is_among name_cmp n names) row → IsPart row names flags
part_of row names flags rises also within flagged = record {
  flagged = flagged;
  all = same_members names_order names (filter (λ n. is_among name_cmp n names) row) also
      (rises-filter names_order (λ n. is_among name_cmp n names) row rises)
      (λ k. either k (is_among name_cmp k names) refl
      ∙ sym (among-filter names_order (λ n. is_among name_cmp n names) k row));
}
  where
    either : (k : List ℕ) (b : Bool) → is_among name_cmp k names ≡ b
        → is_among name_cmp k names ≡ (is_among name_cmp k names && is_among name_cmp k row)
    either k true e = rw (e, within k e) refl
    either k false e = rw e refl

unset : (i : ℕ) → get_or no_flags i false ≡ false
unfolding no_flags
unset i = none_at 256 i

-- no names
pub part_none : (row : List (List ℕ)) → length row ≤ 256 → IsPart row [] no_flags
part_none row few = record { flagged = flagged; all = none row }
  where
    p : List ℕ → Bool
    p = λ n. is_among name_cmp n []

    none : (row : List (List ℕ)) → [] ≡ filter (λ n. is_among name_cmp n []) row
    none [] = refl
    none (x ∷ row) = none row

    clear : (i : ℕ) → get_or (flags_by (λ n. is_among name_cmp n []) row) i false ≡ false
    clear i = elim (cases_lt i (length row)) [
      | inl within ↦ get_or-flags_by (λ n. is_among name_cmp n []) row i [] within
      | inr past ↦ get_or-flags_by_past (λ n. is_among name_cmp n []) row i past
    ]

    flagged : no_flags ≡ flags_by (λ n. is_among name_cmp n []) row
    flagged = ext_get_or false no_flags (flags_by (λ n. is_among name_cmp n []) row)
        (length-no_flags ∙ sym (length-flags_by (λ n. is_among name_cmp n []) row few))
        (λ i within. unset i ∙ sym (clear i))

-- all names of the row
pub part_all : (row : List (List ℕ)) → length row ≤ 256 → IsPart row row (flags_below (length row))
part_all row few = record {
  flagged =
      flags_below-flags_by row few
      ∙ same-flags_by (λ _. true) (λ n. is_among name_cmp n row) row [] (λ k within. among_get row k [] within);
  all = sym (among_all row row (λ k a. a));
}

module _ {row names : List (List ℕ)} {flags : List Bool} (rises : Rises name_cmp row)
    (part : IsPart row names flags) where
  -- a name of the row is put among the names: its flag is set
  pub part_put : (i : ℕ) (n : List ℕ) → i < length row → get_or row i [] ≡ n
      → IsPart row (put_key name_cmp n names) (set flags i true)
  part_put i n within named =
      part_of row (put_key name_cmp n names) (set flags i true) rises
      (rises-put names_order n names (part_rises rises part)) known
      (ap (λ f. set f i true) part.flagged
      ∙ changed-flags_by (λ m. is_among name_cmp m names)
      (λ m. is_among name_cmp m (put_key name_cmp n names)) row i true [] within
      (ap (λ m. is_among name_cmp m (put_key name_cmp n names)) named ∙ among-put_same names_order n names)
      (λ k also apart. among-put_other names_order (get_or row k []) n names
      (λ e. rises_apart row i k [] rises within also apart (named ∙ e))))
    where
      known : (k : List ℕ) → is_among name_cmp k (put_key name_cmp n names) ≡ true → is_among name_cmp k row ≡ true
      known k a = either (is_same name_cmp n k) refl (sym (among-put names_order k n names) ∙ a)
        where
          either : (s : Bool) → is_same name_cmp n k ≡ s → (s || is_among name_cmp k names) ≡ true
              → is_among name_cmp k row ≡ true
          either true e a' = subst (λ m. is_among name_cmp m row ≡ true) (named ∙ key_is names_order n k e)
              (among_get row i [] within)
          either false e a' = part_within part k a'

  -- a name of the row is taken out of the names: its flag is cleared
  pub part_out : (i : ℕ) (n : List ℕ) → i < length row → get_or row i [] ≡ n
      → IsPart row (without n names) (set flags i false)
  part_out i n within named =
      part_of row (without n names) (set flags i false) rises (rises-filter names_order p names (part_rises rises part))
      (λ k a. part_within part k
      (both (p k) (is_among name_cmp k names) (sym (among-filter names_order p k names) ∙ a)).1)
      (ap (λ f. set f i false) part.flagged
      ∙ changed-flags_by (λ m. is_among name_cmp m names)
      (λ m. is_among name_cmp m (without n names)) row i false [] within
      (ap (λ m. is_among name_cmp m (without n names)) named ∙ among-filter names_order p n names
      ∙ ap (λ b. not b && is_among name_cmp n names) (same_key names_order n n refl))
      (λ k also apart. among-filter names_order p (get_or row k []) names
      ∙ ap (λ b. not b && is_among name_cmp (get_or row k []) names)
      (other_key names_order (get_or row k []) n
      (λ e. rises_apart row i k [] rises within also apart (named ∙ sym e)))))
    where
      p : List ℕ → Bool
      p = λ m. not (is_same name_cmp m n)

  -- the row gets another name, which isn't among the names: its place is opened
  pub part_opened : (i : ℕ) (n : List ℕ) → length row < 256 → i ≤ length row
      → insert row i n ≡ put_key name_cmp n row → is_among name_cmp n row ≡ false
      → IsPart (insert row i n) names (opened_flags i flags)
  part_opened i n room within put fresh =
      let p : List ℕ → Bool = λ m. is_among name_cmp m names in
      part_of (insert row i n) names (opened_flags i flags)
      (subst (Rises name_cmp) (sym put) (rises-put names_order n row rises)) (part_rises rises part)
      (λ k a. ap (is_among name_cmp k) put ∙ among-put names_order k n row
      ∙ later (is_same name_cmp n k) (part_within part k a))
      (sym (set_opened flags i) ∙ ap (λ f. set (opened_flags i f) i false) part.flagged
      ∙ ap (λ b. set (opened_flags i (flags_by p row)) i b) (sym absent)
      ∙ opened_flags-flags_by p row i n room within)
    where
      later : (a : Bool) {b : Bool} → b ≡ true → (a || b) ≡ true
      later true e = refl
      later false e = e

      either : (b : Bool) → is_among name_cmp n names ≡ b → is_among name_cmp n names ≡ false
      either true e = absurd (false≢true (sym fresh ∙ part_within part n e))
      either false e = e

      absent : is_among name_cmp n names ≡ false
      absent = either (is_among name_cmp n names) refl

  -- the row loses a name, which isn't among the names: its place is closed
  pub part_closed : (i : ℕ) (n : List ℕ) → length row ≤ 256 → i < length row → remove row i ≡ without n row
      → is_among name_cmp n names ≡ false
      → IsPart (remove row i) names (closed_flags i flags)
  part_closed i n few within out absent =
      part_of (remove row i) names (closed_flags i flags)
      (subst (Rises name_cmp) (sym out) (rises-filter names_order p row rises)) (part_rises rises part)
      (λ k a. ap (is_among name_cmp k) out ∙ among-filter names_order p k row ∙ kept k a)
      (ap (closed_flags i) part.flagged ∙ closed_flags-flags_by (λ m. is_among name_cmp m names) row i few within)
    where
      p : List ℕ → Bool
      p = λ m. not (is_same name_cmp m n)

      kept : (k : List ℕ) → is_among name_cmp k names ≡ true
          → (not (is_same name_cmp k n) && is_among name_cmp k row) ≡ true
      kept k a =
          let other : is_same name_cmp k n ≡ false =
          other_key names_order k n
          (λ e. false≢true (sym absent ∙ ap (λ m. is_among name_cmp m names) (sym e) ∙ a)) in
          rw (other, part_within part k a) refl
