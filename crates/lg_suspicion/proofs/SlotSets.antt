-- The entries of a row that are in a set: one of them, and what one more number changes.
use Rattle.std.proofs.Common.{◌≡◌, ◌≢◌, ℕ, zero, suc, ◌+◌, ◌<◌, Bool, true, false, ◌||◌, List, [], ◌∷◌, length, get_or}
use Rattle.std.proofs.Common.{set, replicate, Option, Some, None, ◌⊎◌, refl, sym, ap, ◌∙◌, inl, inr, arith}
use Rattle.std.proofs.lemmas.Bool.{false≢true}
use Rattle.lg_bit_set.specs.Meaning.Flags.{count_set}
use Rattle.lg_bit_set.proofs.Numbers.{count_set-set, count_set-clear}
use Rattle.lg_rules.specs.Meaning.Rows.{name_cmp, is_same, is_among}
use Rattle.lg_rules.specs.Meaning.Slots.{freed}
use Rattle.lg_rules.proofs.Cases.{held_once}
use Rattle.lg_rules.proofs.KeyOrder.{names_order, same_key, cases_key, other_key}
use Rattle.lg_rules.proofs.SlotLaws.{Slots}
use Rattle.lg_suspicion.specs.Meaning.Parts.{names_in}

-- a name stands in a row at a number of a set
pub record IsSetAt (flags : List Bool) (names : Slots) (n : List ℕ) : Type 0 where
  pub number : ℕ
  pub is_set : get_or flags number false ≡ true
  pub named : get_or names number None ≡ Some n

later : (f : Bool) (flags : List Bool) (o : Option (List ℕ)) (names : Slots) (n : List ℕ) → IsSetAt flags names n
    → IsSetAt (f ∷ flags) (o ∷ names) n
later f flags o names n at = record { number = suc at.number; is_set = at.is_set; named = at.named }

pub among-set : (flags : List Bool) (names : Slots) (n : List ℕ)
    → is_among name_cmp n (names_in flags names) ≡ true → IsSetAt flags names n
among-set [] names n among = absurd (false≢true among)
among-set (f ∷ flags) [] n among = absurd (false≢true among)
among-set (false ∷ flags) (o ∷ names) n among = later false flags o names n (among-set flags names n among)
among-set (true ∷ flags) (None ∷ names) n among = later true flags None names n (among-set flags names n among)
among-set (true ∷ flags) (Some m ∷ names) n among = elim (cases_key names_order m n) [
  | inl same ↦ record { number = 0; is_set = refl; named = ap Some same }
  | inr other ↦ later true flags (Some m) names n
      (among-set flags names n (rw (other_key names_order m n other) at among))
]

or_true : (a : Bool) {b : Bool} → b ≡ true → (a || b) ≡ true
or_true true e = refl
or_true false e = e

pub set-among : (flags : List Bool) (names : Slots) (n : List ℕ) (i : ℕ) → get_or flags i false ≡ true
    → get_or names i None ≡ Some n → is_among name_cmp n (names_in flags names) ≡ true
set-among [] names n i is_set named = absurd cc
set-among (f ∷ flags) [] n i is_set named = absurd cc
set-among (true ∷ flags) (None ∷ names) n zero is_set named = absurd cc
set-among (true ∷ flags) (Some m ∷ names) n zero is_set named = rw (same_key names_order m n (held_once m n named))
set-among (false ∷ flags) (o ∷ names) n zero is_set named = absurd cc
set-among (true ∷ flags) (None ∷ names) n (suc i) is_set named = set-among flags names n i is_set named
set-among (true ∷ flags) (Some m ∷ names) n (suc i) is_set named =
    or_true (is_same name_cmp m n) (set-among flags names n i is_set named)
set-among (false ∷ flags) (o ∷ names) n (suc i) is_set named = set-among flags names n i is_set named

or_swap : (a b c : Bool) → (a || (b || c)) ≡ (b || (a || c))
or_swap true true c = refl
or_swap true false c = refl
or_swap false b c = refl

or_twice : (a b : Bool) → (a || b) ≡ (a || (a || b))
or_twice true b = refl
or_twice false b = refl

-- what is among them once one more number is in the set
pub among-inserted : (flags : List Bool) (names : Slots) (n : List ℕ) (i : ℕ) → i < length flags
    → get_or names i None ≡ Some n → (m : List ℕ)
    → is_among name_cmp m (names_in (set flags i true) names)
    ≡ (is_same name_cmp n m || is_among name_cmp m (names_in flags names))
among-inserted [] names n i within named m = absurd (omega arith)
among-inserted (f ∷ flags) [] n i within named m = absurd cc
among-inserted (f ∷ flags) (None ∷ names) n zero within named m = absurd cc
among-inserted (false ∷ flags) (Some x ∷ names) n zero within named m =
    ap (λ k. is_same name_cmp k m || is_among name_cmp m (names_in flags names)) (held_once x n named)
among-inserted (true ∷ flags) (Some x ∷ names) n zero within named m =
    or_twice (is_same name_cmp x m) (is_among name_cmp m (names_in flags names))
    ∙ ap (λ k. is_same name_cmp k m || (is_same name_cmp x m || is_among name_cmp m (names_in flags names)))
    (held_once x n named)
among-inserted (false ∷ flags) (o ∷ names) n (suc i) within named m =
    among-inserted flags names n i (omega arith) named m
among-inserted (true ∷ flags) (None ∷ names) n (suc i) within named m =
    among-inserted flags names n i (omega arith) named m
among-inserted (true ∷ flags) (Some x ∷ names) n (suc i) within named m =
    ap (λ b. is_same name_cmp x m || b) (among-inserted flags names n i (omega arith) named m)
    ∙ or_swap (is_same name_cmp x m) (is_same name_cmp n m) (is_among name_cmp m (names_in flags names))

pub count_set-inserted : (flags : List Bool) (i : ℕ) → i < length flags → get_or flags i false ≡ false
    → count_set (set flags i true) ≡ count_set flags + 1
count_set-inserted [] i within clear = absurd (omega arith)
count_set-inserted (true ∷ flags) zero within clear = absurd cc
count_set-inserted (false ∷ flags) zero within clear = omega (arith, count_set-set flags, count_set-clear flags)
count_set-inserted (true ∷ flags) (suc i) within clear =
    omega (
      arith,
      count_set-set (set flags i true),
      count_set-set flags,
      count_set-inserted flags i (omega arith) clear,
    )
count_set-inserted (false ∷ flags) (suc i) within clear =
    omega (
      arith,
      count_set-clear (set flags i true),
      count_set-clear flags,
      count_set-inserted flags i (omega arith) clear,
    )

-- what is in the set once one more number is
pub set-inserted : (flags : List Bool) (i j : ℕ) → get_or (set flags i true) j false ≡ true
    → (i ≡ j) ⊎ (get_or flags j false ≡ true)
set-inserted [] i j e = inr e
set-inserted (f ∷ flags) zero zero e = inl refl
set-inserted (f ∷ flags) zero (suc j) e = inr e
set-inserted (f ∷ flags) (suc i) zero e = inr e
set-inserted (f ∷ flags) (suc i) (suc j) e = elim (set-inserted flags i j e) [
  | inl same ↦ inl (ap suc same)
  | inr before ↦ inr before
]

-- a number that is taken out of the set
pub set-removed : (flags : List Bool) (i j : ℕ) → get_or (set flags i false) j false ≡ true
    → (i ≢ j) × (get_or flags j false ≡ true)
set-removed [] i j e = absurd cc
set-removed (f ∷ flags) zero zero e = absurd cc
set-removed (f ∷ flags) zero (suc j) e = (λ s. omega (arith, s), e)
set-removed (f ∷ flags) (suc i) zero e = (λ s. omega (arith, s), e)
set-removed (f ∷ flags) (suc i) (suc j) e =
    let rest = set-removed flags i j e in
    (λ s. rest.0 (omega (arith, s)), rest.1)

pub set-back : (flags : List Bool) (i : ℕ) → get_or flags i false ≡ true → set (set flags i false) i true ≡ flags
set-back [] i e = refl
set-back (f ∷ flags) zero e = ap (λ b. b ∷ flags) (sym e)
set-back (f ∷ flags) (suc i) e = ap (λ fs. f ∷ fs) (set-back flags i e)

pub set-within : (flags : List Bool) (i : ℕ) → get_or flags i false ≡ true → i < length flags
set-within [] i e = absurd cc
set-within (f ∷ flags) zero e = omega arith
set-within (f ∷ flags) (suc i) e = omega (arith, set-within flags i e)

pub set-cleared : (flags : List Bool) (i : ℕ) → get_or (set flags i false) i false ≡ false
set-cleared [] i = refl
set-cleared (f ∷ flags) zero = refl
set-cleared (f ∷ flags) (suc i) = set-cleared flags i

-- a name that is given a slot that isn't in the set leaves them,
pub names-given : (flags : List Bool) (names : Slots) (i : ℕ) (o : Option (List ℕ)) → get_or flags i false ≡ false
    → names_in flags (set names i o) ≡ names_in flags names
names-given [] names i o e = refl
names-given (f ∷ flags) [] i o e = refl
names-given (true ∷ flags) (p ∷ names) zero o e = absurd cc
names-given (false ∷ flags) (p ∷ names) zero o e = refl
names-given (true ∷ flags) (None ∷ names) (suc i) o e = names-given flags names i o e
names-given (true ∷ flags) (Some m ∷ names) (suc i) o e = ap (λ ns. m ∷ ns) (names-given flags names i o e)
names-given (false ∷ flags) (p ∷ names) (suc i) o e = names-given flags names i o e

-- and so does a name that is forgotten, if it has no slot of the set
pub names-freed : (flags : List Bool) (names : Slots) (n : List ℕ)
    → ((i : ℕ) → get_or flags i false ≡ true → get_or names i None ≢ Some n)
    → names_in flags (freed n names) ≡ names_in flags names
names-freed [] names n h = refl
names-freed (f ∷ flags) [] n h = refl
names-freed (true ∷ flags) (None ∷ names) n h = names-freed flags names n (λ i e. h (suc i) e)
names-freed (true ∷ flags) (Some m ∷ names) n h =
    rw (other_key names_order m n (λ e. h 0 refl (ap Some e)))
    (ap (λ ns. m ∷ ns) (names-freed flags names n (λ i e. h (suc i) e)))
names-freed (false ∷ flags) (o ∷ names) n h = names-freed flags names n (λ i e. h (suc i) e)

-- the empty set has nothing
pub none_set : (count : ℕ) (names : Slots) → names_in (replicate count false) names ≡ []
none_set zero names = refl
none_set (suc count) [] = refl
none_set (suc count) (n ∷ names) = none_set count names

pub none_counted : (count : ℕ) → count_set (replicate count false) ≡ 0
none_counted zero = refl
none_counted (suc count) = omega (arith, count_set-clear (replicate count false), none_counted count)
