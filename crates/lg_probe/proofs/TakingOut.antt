-- A name's numbers are taken out of a set, one entry of the row after another.
use Rattle.std.proofs.Common.{
  ◌≡◌,
  ℕ,
  zero,
  suc,
  ◌+◌,
  ◌<◌,
  ◌≤◌,
  Bool,
  true,
  false,
  not,
  cond,
  ◌&&◌,
  ◌||◌,
  List,
  [],
  ◌∷◌,
  ◌++◌,
  length,
  get_or,
  set,
  take,
  refl,
  sym,
  ap,
  ◌∙◌,
  inl,
  inr,
  arith,
}
use Rattle.std.specs.Prelude.{filter}
use Rattle.std.proofs.lemmas.Bool.{cases_lt, cases_eq}
use Rattle.std.proofs.lemmas.List.{ext_get_or, get_or-set_same, get_or-set_other, length-set, take_all}
use Rattle.lg_bit_set.specs.Meaning.Flags.{flags_by, entries_in}
use Rattle.lg_bit_set.proofs.EntryLaws.{entries_in-nil}
use Rattle.lg_bit_set.proofs.FilterLaws.{get_or-flags_by, get_or-flags_by_past}
use Rattle.lg_bit_set.proofs.TestLaws.{length-flags_by}
use Rattle.lg_rules.specs.Meaning.Rows.{name_cmp, is_same, is_among}
use Rattle.lg_rules.proofs.KeyOrder.{names_order}
use Rattle.lg_rules.proofs.Rises.{among-filter}
use Rattle.lg_probe.specs.Meaning.Order.{without}
use Rattle.lg_probe.specs.Support.Order.{IsPart}
use Rattle.lg_probe.proofs.Entries.{entries_next}
use Rattle.lg_probe.proofs.NameRows.{among-append}
use Rattle.lg_probe.proofs.Parts.{filter_both, part_flag, part_past, part_long}

-- Of the first entries of a row, those with a name were taken out of a set, and it is known whether the set had one.
pub record IsOut (row : List (List ℕ)) (n : List ℕ) (before flags : List Bool) (found : Bool) (i : ℕ) : Type 0 where
  pub long : length flags ≡ length before
  pub gone : (j : ℕ) → j < i → j < length row
      → get_or flags j false ≡ (get_or before j false && not (is_same name_cmp (get_or row j []) n))
  pub kept : (j : ℕ) → i ≤ j → get_or flags j false ≡ get_or before j false
  pub seen : found ≡ is_among name_cmp n (entries_in before (take i row))

and_true : (b : Bool) → (b && true) ≡ b
and_true true = refl
and_true false = refl

and_false : (b : Bool) → (b && false) ≡ false
and_false true = refl
and_false false = refl

or_false : (b : Bool) → (b || false) ≡ b
or_false true = refl
or_false false = refl

and_swap : (a b : Bool) → (a && b) ≡ (b && a)
and_swap true true = refl
and_swap true false = refl
and_swap false true = refl
and_swap false false = refl

at_none : (row : List (List ℕ)) (i : ℕ) (x : List ℕ) → i < length row → x ≡ get_or row i x → x ≡ get_or row i []
at_none [] i x within at = absurd (omega arith)
at_none (y ∷ row) zero x within at = at
at_none (y ∷ row) (suc i) x within at = at_none row i x (omega arith) at

module _ (row : List (List ℕ)) (n : List ℕ) (before : List Bool) where
  pub out_first : IsOut row n before before false 0
  out_first = record {
    long = refl;
    gone = λ j below within. absurd (omega (arith, below));
    kept = λ j past. refl;
    seen = sym (ap (is_among name_cmp n) (entries_in-nil before));
  }

  -- whether the name was seen, one entry further
  seen_more : (found : Bool) (i : ℕ) (x : List ℕ) → i < length row → x ≡ get_or row i x
      → found ≡ is_among name_cmp n (entries_in before (take i row))
      → (found || (get_or before i false && is_same name_cmp x n))
      ≡ is_among name_cmp n (entries_in before (take (i + 1) row))
  seen_more found i x within at seen =
      let rest = entries_in before (take i row) in
      ap (λ b. b || (get_or before i false && is_same name_cmp x n)) seen
      ∙ ap (λ b. is_among name_cmp n rest || b) (one (get_or before i false))
      ∙ sym (among-append n rest (cond (get_or before i false) (x ∷ []) []))
      ∙ ap (λ y. is_among name_cmp n (rest ++ cond (get_or before i false) (y ∷ []) [])) at
      ∙ sym (ap (is_among name_cmp n) (entries_next before row i x within))
    where
      one : (b : Bool) → (b && is_same name_cmp x n) ≡ is_among name_cmp n (cond b (x ∷ []) [])
      one true = sym (or_false (is_same name_cmp x n))
      one false = refl

  module _ (flags : List Bool) (found : Bool) (i : ℕ) (x : List ℕ) (within : i < length row)
      (at : x ≡ get_or row i x) (out : IsOut row n before flags found i) where
    -- an entry with another name
    pub out_skipped : is_same name_cmp x n ≡ false → IsOut row n before flags found (i + 1)
    out_skipped other = record {
      long = out.long;
      gone = λ j below inside. elim (cases_lt j i) [
        | inl l ↦ out.gone j l inside
        | inr g ↦ (
            let here : j ≡ i = omega (arith, below, g) in
            out.kept j g ∙ sym (and_true (get_or before j false))
            ∙ ap (λ b. get_or before j false && not b)
            (sym other ∙ ap (λ y. is_same name_cmp y n)
            (at_none row i x within at ∙ ap (λ k. get_or row k []) (sym here))))
      ];
      kept = λ j past. out.kept j (omega (arith, past));
      seen = sym (or_false found)
          ∙ ap (λ b. found || b)
          (sym (ap (λ b. get_or before i false && b) other ∙ and_false (get_or before i false)))
          ∙ seen_more found i x within at out.seen;
    }

    -- an entry with the name
    pub out_taken : (flag : Bool) → i < length before → is_same name_cmp x n ≡ true → flag ≡ get_or flags i false
        → IsOut row n before (set flags i false) (found || flag) (i + 1)
    out_taken flag fits same is = record {
      long = length-set flags i false ∙ out.long;
      gone = λ j below inside. elim (cases_eq j i) [
        | inl here ↦ (
            ap (λ k. get_or (set flags i false) k false) here
            ∙ get_or-set_same flags i false false (omega (arith, out.long, fits))
            ∙ sym (and_false (get_or before j false))
            ∙ ap (λ b. get_or before j false && not b)
            (sym same ∙ ap (λ y. is_same name_cmp y n)
            (at_none row i x within at ∙ ap (λ k. get_or row k []) (sym here))))
        | inr there ↦ get_or-set_other flags i j false false there ∙ out.gone j (omega (arith, below, there)) inside
      ];
      kept = λ j past. get_or-set_other flags i j false false (omega (arith, past)) ∙ out.kept j (omega (arith, past));
      seen =
          ap (λ b. found || b)
          (is ∙ out.kept i (omega arith) ∙ sym (and_true (get_or before i false))
          ∙ ap (λ b. get_or before i false && b) (sym same))
          ∙ seen_more found i x within at out.seen;
    }

  module _ (flags : List Bool) (found : Bool) (i : ℕ) (past : length row ≤ i) (few_yet : i ≤ length row)
      (out : IsOut row n before flags found i) (part : IsPart row (entries_in before row) before)
      (few : length row ≤ 256) where
    same_test : (m : List ℕ)
        → is_among name_cmp m (without n (entries_in before row))
        ≡ (is_among name_cmp m (entries_in before row) && not (is_same name_cmp m n))
    same_test m = among-filter names_order (λ k. not (is_same name_cmp k n)) m (entries_in before row)
        ∙ and_swap (not (is_same name_cmp m n)) (is_among name_cmp m (entries_in before row))

    flag_at : (j : ℕ) → get_or flags j false
        ≡ get_or (flags_by (λ m. is_among name_cmp m (without n (entries_in before row))) row) j false
    flag_at j = elim (cases_lt j (length row)) [
      | inl inside ↦ out.gone j (omega (arith, inside, past)) inside
          ∙ ap (λ b. b && not (is_same name_cmp (get_or row j []) n)) (part_flag part j (get_or row j []) inside refl)
          ∙ sym (same_test (get_or row j []))
          ∙ sym (get_or-flags_by (λ m. is_among name_cmp m (without n (entries_in before row))) row j [] inside)
      | inr outside ↦ out.kept j (omega (arith, outside, few_yet)) ∙ part_past part j outside
          ∙ sym (get_or-flags_by_past (λ m. is_among name_cmp m (without n (entries_in before row))) row j outside)
    ]

    -- all entries with the name are out
    pub out_all : IsPart row (without n (entries_in before row)) flags
    out_all = record {
      flagged = ext_get_or false flags (flags_by (λ m. is_among name_cmp m (without n (entries_in before row))) row)
          (out.long ∙ part_long part few
          ∙ sym (length-flags_by (λ m. is_among name_cmp m (without n (entries_in before row))) row few))
          (λ j within. flag_at j);
      all =
          ap (filter (λ k. not (is_same name_cmp k n))) part.all
          ∙ sym (filter_both (λ m. is_among name_cmp m (entries_in before row)) (λ k. not (is_same name_cmp k n)) row)
          ∙ (λ j. filter (λ m. sym (same_test m) j) row);
    }

    pub out_found : found ≡ is_among name_cmp n (entries_in before row)
    out_found = out.seen ∙ ap (λ l. is_among name_cmp n (entries_in before l)) (take_all i row past)
