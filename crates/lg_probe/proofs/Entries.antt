-- The entries of a row whose numbers are in a set, one after another.
use Rattle.std.proofs.Common.{
  ◌≡◌,
  ℕ,
  zero,
  suc,
  ◌+◌,
  ◌<◌,
  ◌≤◌,
  Bool,
  true,
  false,
  cond,
  List,
  [],
  ◌∷◌,
  ◌++◌,
  length,
  get_or,
  take,
  refl,
  ap,
  ◌∙◌,
  arith,
}
use Rattle.std.proofs.Math.Numerals.{add-one}
use Rattle.lg_bit_set.specs.Meaning.Flags.{entries_in}
use Rattle.lg_bit_set.proofs.EntryLaws.{entries_in-nil}

module _ {X : Type 0} where
  entries_suc : (flags : List Bool) (row : List X) (i : ℕ) (d : X) → i < length row
      → entries_in flags (take (suc i) row)
      ≡ entries_in flags (take i row) ++ cond (get_or flags i false) (get_or row i d ∷ []) []
  entries_suc flags [] i d within = absurd (omega arith)
  entries_suc [] (x ∷ row) i d within = refl
  entries_suc (true ∷ flags) (x ∷ row) zero d within = ap (λ l. x ∷ l) (entries_in-nil flags)
  entries_suc (false ∷ flags) (x ∷ row) zero d within = entries_in-nil flags
  entries_suc (true ∷ flags) (x ∷ row) (suc i) d within =
      ap (λ l. x ∷ l) (entries_suc flags row i d (omega arith))
  entries_suc (false ∷ flags) (x ∷ row) (suc i) d within = entries_suc flags row i d (omega arith)

  pub entries_next : (flags : List Bool) (row : List X) (i : ℕ) (d : X) → i < length row
      → entries_in flags (take (i + 1) row)
      ≡ entries_in flags (take i row) ++ cond (get_or flags i false) (get_or row i d ∷ []) []
  entries_next flags row i d within =
      ap (λ n. entries_in flags (take n row)) (add-one i) ∙ entries_suc flags row i d within

  pub entries_few : (flags : List Bool) (row : List X) (i : ℕ) → length (entries_in flags (take i row)) ≤ i
  entries_few [] row i = omega arith
  entries_few (flag ∷ flags) [] zero = omega arith
  entries_few (flag ∷ flags) [] (suc i) = omega arith
  entries_few (flag ∷ flags) (x ∷ row) zero = omega arith
  entries_few (true ∷ flags) (x ∷ row) (suc i) = omega (arith, entries_few flags row i)
  entries_few (false ∷ flags) (x ∷ row) (suc i) = omega (arith, entries_few flags row i)
