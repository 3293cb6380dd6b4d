-- A set without numbers has none once a place was opened or closed.
use Rattle.std.proofs.Common.{◌≡◌, ℕ, zero, suc, ◌<◌, true, false, Bool, List, [], ◌∷◌, ◌++◌, length, take, refl, ap, arith}
use Rattle.lg_bit_set.specs.Meaning.Flags.{count_set, opened_flags, closed_flags}
use Rattle.lg_bit_set.proofs.Numbers.{count_set-set, count_set-clear}

none_behind : (flags : List Bool) → count_set (false ∷ flags) ≡ 0 → count_set flags ≡ 0
none_behind flags none = omega (arith, none, count_set-clear flags)

risen_none : (flags : List Bool) → count_set flags ≡ 0 → take (length flags) (false ∷ flags) ≡ flags
risen_none [] none = refl
risen_none (true ∷ flags) none = absurd (omega (arith, none, count_set-set flags))
risen_none (false ∷ flags) none = ap (λ l. false ∷ l) (risen_none flags (none_behind flags none))

pub opened_none : (flags : List Bool) (number : ℕ) → count_set flags ≡ 0 → opened_flags number flags ≡ flags
opened_none [] number none = refl
opened_none (true ∷ flags) number none = absurd (omega (arith, none, count_set-set flags))
opened_none (false ∷ flags) zero none = ap (λ l. false ∷ l) (risen_none flags (none_behind flags none))
opened_none (false ∷ flags) (suc number) none =
    ap (λ l. false ∷ l) (opened_none flags number (none_behind flags none))

fallen_none : (flags : List Bool) → count_set flags ≡ 0 → flags ++ false ∷ [] ≡ false ∷ flags
fallen_none [] none = refl
fallen_none (true ∷ flags) none = absurd (omega (arith, none, count_set-set flags))
fallen_none (false ∷ flags) none = ap (λ l. false ∷ l) (fallen_none flags (none_behind flags none))

pub closed_none : (flags : List Bool) (number : ℕ) → count_set flags ≡ 0 → number < length flags
    → closed_flags number flags ≡ flags
closed_none [] number none within = absurd (omega arith)
closed_none (true ∷ flags) number none within = absurd (omega (arith, none, count_set-set flags))
closed_none (false ∷ flags) zero none within = fallen_none flags (none_behind flags none)
closed_none (false ∷ flags) (suc number) none within =
    ap (λ l. false ∷ l) (closed_none flags number (none_behind flags none) (omega arith))
