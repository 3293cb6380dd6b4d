-- Reading a number byte by byte, as the code does: the bytes behind the first one are a slice of them.
use Rattle.std.proofs.Common.{◌≡◌, ℕ, ◌+◌, ◌-◌, ◌*◌, ◌%◌, ◌<◌, ◌≤◌, ◌^◌, true, false, eqb, List, [], ◌∷◌, length, get_or, take, drop, Result, Ok, Err, refl, sym, ap, subst, ◌∙◌, arith}
use Rattle.std.specs.Prelude.{IfOk}
use Rattle.std.proofs.lemmas.Bool.{eq-eqb, ne_eqb}
use Rattle.std.proofs.lemmas.List.{take_all}
use Rattle.lg_fields.specs.declared.fault.FieldFault.{FieldFault}
use Rattle.lg_fields.specs.declared.fault.FieldFault.TheVariants as faults
use Rattle.lg_fields.specs.Meaning.Scanned.{◌>>=◌, digit_before, digits_scan}
use Rattle.lg_fields.specs.Support.Bounds.{digits_bound}
use Rattle.lg_fields.proofs.Numbers.{bound_least, bound_most, bound_step, digits_short, ends_read, goes_on}

-- the bytes behind the first one
abbrev pub behind_first : List ℕ → List ℕ
behind_first bytes = take (length bytes - 1) (drop 1 bytes)

all_behind : (b : ℕ) (bytes : List ℕ) → behind_first (b ∷ bytes) ≡ bytes
all_behind b bytes =
    let count : length (b ∷ bytes) - 1 ≡ length bytes = omega arith in
    ap (λ (n : ℕ). take n bytes) count ∙ take_all (length bytes) bytes (omega arith)

pub none_left : (more : ℕ) (bytes : List ℕ) → length bytes < 1 → digits_scan more bytes ≡ Err faults.Short
none_left more [] none = digits_short more
none_left more (b ∷ bytes) none = absurd (omega arith)

pub ends_here : (more : ℕ) (bytes : List ℕ) → 1 ≤ more → 1 ≤ length bytes → get_or bytes 0 0 < 128 → digits_scan more bytes ≡ Ok (get_or bytes 0 0, behind_first bytes)
ends_here more [] some there low = absurd (omega arith)
ends_here more (b ∷ bytes) some there low =
    ends_read more b bytes some low ∙ ap (λ (rest : List ℕ). Ok (b, rest)) (sym (all_behind b bytes))

on_behind : (more : ℕ) (bytes : List ℕ) → 1 ≤ more → 1 ≤ length bytes → 128 ≤ get_or bytes 0 0
    → digits_scan more bytes ≡ (digits_scan (more - 1) (behind_first bytes) >>= digit_before (get_or bytes 0 0))
on_behind more [] some there high = absurd (omega arith)
on_behind more (b ∷ bytes) some there high =
    goes_on more b bytes some high ∙ ap (λ (rest : List ℕ). digits_scan (more - 1) rest >>= digit_before b) (sym (all_behind b bytes))

pub others_refused : (more : ℕ) (bytes : List ℕ) (f : FieldFault) → 1 ≤ more → 1 ≤ length bytes → 128 ≤ get_or bytes 0 0
    → digits_scan (more - 1) (behind_first bytes) ≡ Err f → digits_scan more bytes ≡ Err f
others_refused more bytes f some there high e =
    on_behind more bytes some there high ∙ ap (λ (r : Result (ℕ × List ℕ) FieldFault). r >>= digit_before (get_or bytes 0 0)) e

pub others_none : (more : ℕ) (bytes after : List ℕ) (m : ℕ) → 1 ≤ more → 1 ≤ length bytes → 128 ≤ get_or bytes 0 0
    → digits_scan (more - 1) (behind_first bytes) ≡ Ok (m, after) → m ≡ 0 → digits_scan more bytes ≡ Err faults.Number
others_none more bytes after m some there high e none =
    let is : eqb m 0 ≡ true = eq-eqb m 0 none in
    on_behind more bytes some there high
    ∙ ap (λ (r : Result (ℕ × List ℕ) FieldFault). r >>= digit_before (get_or bytes 0 0)) e
    ∙ rw is refl

pub others_there : (more : ℕ) (bytes after : List ℕ) (m : ℕ) → 1 ≤ more → 1 ≤ length bytes → 128 ≤ get_or bytes 0 0
    → digits_scan (more - 1) (behind_first bytes) ≡ Ok (m, after) → (m ≡ 0 → ⊥) → digits_scan more bytes ≡ Ok (get_or bytes 0 0 % 128 + 128 * m, after)
others_there more bytes after m some there high e other =
    let is : eqb m 0 ≡ false = ne_eqb m 0 other in
    on_behind more bytes some there high
    ∙ ap (λ (r : Result (ℕ × List ℕ) FieldFault). r >>= digit_before (get_or bytes 0 0)) e
    ∙ rw is refl

-- ---- what is read is below the bound

pub last_below : (more : ℕ) (r : Result ℕ FieldFault) → more ≡ 0 → IfOk r (λ n. n < 2) → IfOk r (λ n. n < digits_bound more)
unfolding digits_bound
last_below more r none low = subst (λ (m : ℕ). IfOk r (λ n. n < digits_bound m)) (sym none) low

pub small_below : (more n : ℕ) → 1 ≤ more → n < 128 → n < digits_bound more
small_below more n some low = omega (arith, bound_step more some, bound_least (more - 1))

pub sum_below : (more n m : ℕ) → 1 ≤ more → n < 128 → m < digits_bound (more - 1) → n + 128 * m < digits_bound more
sum_below more n m some low below = omega (arith, bound_step more some)

pub sum_fits : (more n m : ℕ) → 1 ≤ more → more ≤ 9 → n < 128 → m < digits_bound (more - 1) → n + 128 * m < 2 ^ 64
sum_fits more n m some few low below = omega (arith, sum_below more n m some low below, bound_most more few)
