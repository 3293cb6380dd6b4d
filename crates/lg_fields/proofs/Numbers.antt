-- Numbers: what is read is spelled so, and what is spelled so is read again.
use Rattle.std.proofs.Common.{◌≡◌, ℕ, zero, suc, ◌+◌, ◌-◌, ◌*◌, ◌/◌, ◌%◌, ◌<◌, ◌≤◌, ◌^◌, Bool, true, false, cond, eqb, ltb, List, [], ◌∷◌, ◌++◌, Ok, Err, refl, sym, ap, subst, ◌∙◌, arith}
use Rattle.std.specs.List.{AllByRecursion}
use Rattle.std.proofs.lemmas.Bool.{eqb-false, le-ltb, lt-ltb, ltb-false, ltb-true, ne_eqb}
use Rattle.lg_packet.specs.Meaning.Bytes.{IsByte}
use Rattle.lg_fields.specs.declared.fault.FieldFault.TheVariants as faults
use Rattle.lg_fields.specs.Meaning.Spelled.{IsCount, spelled_count, spelled_digits}
use Rattle.lg_fields.specs.Meaning.Scanned.{◌>>=◌, bounded_scan, count_scan, digit_before, digits_scan, few_scan}
use Rattle.lg_fields.specs.Support.Bounds.{digits_bound, greatest_count-is}
use Rattle.lg_fields.proofs.Results.{step_ok, passed_by, same_ok}

-- ---- bounds

pub bound_least : (more : ℕ) → 2 ≤ digits_bound more
unfolding digits_bound
bound_least zero = omega arith
bound_least (suc more) = omega (arith, bound_least more)

-- with at most nine bytes before the last one, a number is below 2^64
pub bound_most : (more : ℕ) → more ≤ 9 → digits_bound more ≤ 2 ^ 64
unfolding digits_bound
bound_most zero few = omega arith
bound_most (suc zero) few = omega arith
bound_most (suc (suc zero)) few = omega arith
bound_most (suc (suc (suc zero))) few = omega arith
bound_most (suc (suc (suc (suc zero)))) few = omega arith
bound_most (suc (suc (suc (suc (suc zero))))) few = omega arith
bound_most (suc (suc (suc (suc (suc (suc zero)))))) few = omega arith
bound_most (suc (suc (suc (suc (suc (suc (suc zero))))))) few = omega arith
bound_most (suc (suc (suc (suc (suc (suc (suc (suc zero)))))))) few = omega arith
bound_most (suc (suc (suc (suc (suc (suc (suc (suc (suc zero))))))))) few = omega arith
bound_most (suc (suc (suc (suc (suc (suc (suc (suc (suc (suc more)))))))))) few = absurd (omega arith)

pub bound_step : (more : ℕ) → 1 ≤ more → digits_bound more ≡ 128 * digits_bound (more - 1)
unfolding digits_bound
bound_step zero some = absurd (omega arith)
bound_step (suc more) some = let less : suc more - 1 ≡ more = omega arith in rw less refl

-- ---- reading, by the bytes that may stand before the last one

pub digits_short : (more : ℕ) → digits_scan more [] ≡ Err faults.Short
unfolding digits_scan
digits_short zero = refl
digits_short (suc more) = refl

pub last_read : (b : ℕ) (rest : List ℕ) → b ≤ 1 → digits_scan 0 (b ∷ rest) ≡ Ok (b, rest)
unfolding digits_scan
last_read b rest few = rw (le-ltb 1 b few) refl

pub last_refused : (b : ℕ) (rest : List ℕ) → 1 < b → digits_scan 0 (b ∷ rest) ≡ Err faults.Number
unfolding digits_scan
last_refused b rest many = rw (lt-ltb 1 b many) refl

pub ends_read : (more b : ℕ) (rest : List ℕ) → 1 ≤ more → b < 128 → digits_scan more (b ∷ rest) ≡ Ok (b, rest)
unfolding digits_scan
ends_read zero b rest some low = absurd (omega arith)
ends_read (suc more) b rest some low = rw (lt-ltb b 128 low) refl

pub goes_on : (more b : ℕ) (rest : List ℕ) → 1 ≤ more → 128 ≤ b → digits_scan more (b ∷ rest) ≡ (digits_scan (more - 1) rest >>= digit_before b)
unfolding digits_scan
goes_on zero b rest some high = absurd (omega arith)
goes_on (suc more) b rest some high =
    let less : suc more - 1 ≡ more = omega arith in
    rw (less, le-ltb b 128 high) refl

-- ---- what is read is spelled so

abbrev ReadsDigits : ℕ → List ℕ → ℕ × List ℕ → Type 0
ReadsDigits more bytes x = (bytes ≡ spelled_digits more x.0 ++ x.1) × (x.0 < digits_bound more)

behind_one : (more b m : ℕ) (rest after : List ℕ) → 128 ≤ b → b < 256 → 1 ≤ m → ReadsDigits more rest (m, after) → ReadsDigits (suc more) (b ∷ rest) (b % 128 + 128 * m, after)
unfolding spelled_digits digits_bound
behind_one more b m rest after high low some others =
    let n : ℕ = b % 128 + 128 * m in
    let large : ltb n 128 ≡ false = le-ltb n 128 (omega arith) in
    let first : 128 + n % 128 ≡ b = omega arith in
    let quotient : n / 128 ≡ m = omega arith in
    (rw (large, first, quotient) (ap (λ (t : List ℕ). b ∷ t) others.0), omega (arith, others.1))

digits_takes : (more : ℕ) (bytes : List ℕ) (x : ℕ × List ℕ) → AllByRecursion IsByte bytes → digits_scan more bytes ≡ Ok x → ReadsDigits more bytes x
unfolding digits_scan spelled_digits digits_bound
digits_takes zero [] x fit e = absurd cc
digits_takes zero (b ∷ bytes) x fit e =
    let p = passed_by (ltb 1 b) faults.Number (Ok (b, bytes)) x e in
    let low : b < 2 = omega (arith, ltb-false 1 b p.0) in
    subst (λ (y : ℕ × List ℕ). (b ∷ bytes ≡ y.0 ∷ y.1) × (y.0 < 2)) (same_ok (b, bytes) x p.1) (refl, low)
digits_takes (suc more) [] x fit e = absurd cc
digits_takes (suc more) (b ∷ bytes) x fit e = step (ltb b 128) refl (digits_takes more bytes) e
  where
    step : (small : Bool) → ltb b 128 ≡ small → ((y : ℕ × List ℕ) → AllByRecursion IsByte bytes → digits_scan more bytes ≡ Ok y → ReadsDigits more bytes y)
        → cond small (Ok (b, bytes)) (digits_scan more bytes >>= digit_before b) ≡ Ok x → ReadsDigits (suc more) (b ∷ bytes) x
    step true h read k =
        let low : b < 128 * digits_bound more = omega (arith, ltb-true b 128 h, bound_least more) in
        let spelled : b ∷ bytes ≡ spelled_digits (suc more) b ++ bytes = rw h refl in
        subst (λ (y : ℕ × List ℕ). ReadsDigits (suc more) (b ∷ bytes) y) (same_ok (b, bytes) x k) (spelled, low)
    step false h read k =
        let a = step_ok (digits_scan more bytes) (digit_before b) x k in
        let p = passed_by (eqb a.0.0 0) faults.Number (Ok (b % 128 + 128 * a.0.0, a.0.1)) x a.2 in
        let some : 1 ≤ a.0.0 = omega (arith, eqb-false a.0.0 0 p.0) in
        let others : ReadsDigits more bytes (a.0.0, a.0.1) = read a.0 fit.1 a.1 in
        subst (λ (y : ℕ × List ℕ). ReadsDigits (suc more) (b ∷ bytes) y) (same_ok (b % 128 + 128 * a.0.0, a.0.1) x p.1)
        (behind_one more b a.0.0 bytes a.0.1 (ltb-false b 128 h) fit.0 some others)

pub count_takes : (bytes : List ℕ) (x : ℕ × List ℕ) → AllByRecursion IsByte bytes → count_scan bytes ≡ Ok x → (bytes ≡ spelled_count x.0 ++ x.1) × IsCount x.0
unfolding count_scan spelled_count
count_takes bytes x fit e =
    let read = digits_takes 9 bytes x fit e in
    (read.0, omega (arith, read.1, greatest_count-is))

-- ---- what is spelled so is read again

digits_again : (more n : ℕ) (rest : List ℕ) → n < digits_bound more → digits_scan more (spelled_digits more n ++ rest) ≡ Ok (n, rest)
unfolding digits_scan spelled_digits digits_bound
digits_again zero n rest fit = rw (le-ltb 1 n (omega arith)) refl
digits_again (suc more) n rest fit = step (ltb n 128) refl (digits_again more (n / 128) rest)
  where
    step : (small : Bool) → ltb n 128 ≡ small → (n / 128 < digits_bound more → digits_scan more (spelled_digits more (n / 128) ++ rest) ≡ Ok (n / 128, rest))
        → digits_scan (suc more) (cond small (n ∷ []) ((128 + n % 128) ∷ spelled_digits more (n / 128)) ++ rest) ≡ Ok (n, rest)
    step true h again = rw h refl
    step false h again =
        let high : 128 ≤ n = ltb-false n 128 h in
        let on : ltb (128 + n % 128) 128 ≡ false = le-ltb (128 + n % 128) 128 (omega arith) in
        let others : digits_scan more (spelled_digits more (n / 128) ++ rest) ≡ Ok (n / 128, rest) = again (omega arith) in
        let some : eqb (n / 128) 0 ≡ false = ne_eqb (n / 128) 0 (omega arith) in
        let whole : (128 + n % 128) % 128 + 128 * (n / 128) ≡ n = omega arith in
        rw (on, others, some, whole) refl

pub count_again : (n : ℕ) (rest : List ℕ) → IsCount n → count_scan (spelled_count n ++ rest) ≡ Ok (n, rest)
unfolding count_scan spelled_count
count_again n rest fit = digits_again 9 n rest (omega (arith, greatest_count-is))

-- ---- writing, byte by byte

-- a number that is small enough has the same spelling with room for one byte more
more_room : (more n : ℕ) → n < digits_bound more → spelled_digits (suc more) n ≡ spelled_digits more n
unfolding spelled_digits digits_bound
more_room zero n fit = rw (lt-ltb n 128 (omega arith)) refl
more_room (suc more) n fit = step (ltb n 128) refl (more_room more (n / 128))
  where
    step : (small : Bool) → ltb n 128 ≡ small → (n / 128 < digits_bound more → spelled_digits (suc more) (n / 128) ≡ spelled_digits more (n / 128))
        → cond small (n ∷ []) ((128 + n % 128) ∷ spelled_digits (suc more) (n / 128)) ≡ cond small (n ∷ []) ((128 + n % 128) ∷ spelled_digits more (n / 128))
    step true h same = refl
    step false h same = ap (λ (t : List ℕ). (128 + n % 128) ∷ t) (same (omega arith))

pub count_ends : (n : ℕ) → n < 128 → spelled_count n ≡ n ∷ []
unfolding spelled_count spelled_digits
count_ends n low = rw (lt-ltb n 128 low) refl

bound_of_eight : digits_bound 8 ≡ 2 ^ 57
unfolding digits_bound
bound_of_eight = refl

all_digits : (n : ℕ) → spelled_digits 9 n ≡ spelled_count n
unfolding spelled_count
all_digits n = refl

first_digit : (n : ℕ) → 128 ≤ n → spelled_digits 9 n ≡ (128 + n % 128) ∷ spelled_digits 8 (n / 128)
unfolding spelled_digits
first_digit n high = rw (le-ltb n 128 high) refl

pub count_goes_on : (n : ℕ) → 128 ≤ n → IsCount n → spelled_count n ≡ (128 + n % 128) ∷ spelled_count (n / 128)
count_goes_on n high fit =
    let low : n / 128 < digits_bound 8 = omega (arith, bound_of_eight) in
    sym (all_digits n) ∙ first_digit n high
    ∙ ap (λ (t : List ℕ). (128 + n % 128) ∷ t) (sym (more_room 8 (n / 128) low) ∙ all_digits (n / 128))

-- ---- numbers with a bound

pub bounded_takes : (most : ℕ) (bytes : List ℕ) (x : ℕ × List ℕ) → AllByRecursion IsByte bytes → bounded_scan most bytes ≡ Ok x → (bytes ≡ spelled_count x.0 ++ x.1) × IsCount x.0 × (x.0 ≤ most)
unfolding bounded_scan
bounded_takes most bytes x fit e =
    let a = step_ok (count_scan bytes) (λ number. cond (ltb most number.0) (Err faults.Number) (Ok number)) x e in
    let p = passed_by (ltb most a.0.0) faults.Number (Ok a.0) x a.2 in
    let number = count_takes bytes a.0 fit a.1 in
    subst (λ (y : ℕ × List ℕ). (bytes ≡ spelled_count y.0 ++ y.1) × IsCount y.0 × (y.0 ≤ most)) (same_ok a.0 x p.1) (number.0, number.1, ltb-false most a.0.0 p.0)

pub bounded_again : (most n : ℕ) (rest : List ℕ) → IsCount n → n ≤ most → bounded_scan most (spelled_count n ++ rest) ≡ Ok (n, rest)
unfolding bounded_scan
bounded_again most n rest fit few = rw (count_again n rest fit, le-ltb most n few) refl

pub few_takes : (most : ℕ) (bytes : List ℕ) (x : ℕ × List ℕ) → AllByRecursion IsByte bytes → few_scan most bytes ≡ Ok x → (bytes ≡ spelled_count x.0 ++ x.1) × IsCount x.0 × (x.0 ≤ most)
unfolding few_scan
few_takes most bytes x fit e =
    let a = step_ok (count_scan bytes) (λ number. cond (ltb most number.0) (Err faults.Count) (Ok number)) x e in
    let p = passed_by (ltb most a.0.0) faults.Count (Ok a.0) x a.2 in
    let number = count_takes bytes a.0 fit a.1 in
    subst (λ (y : ℕ × List ℕ). (bytes ≡ spelled_count y.0 ++ y.1) × IsCount y.0 × (y.0 ≤ most)) (same_ok a.0 x p.1) (number.0, number.1, ltb-false most a.0.0 p.0)

pub few_again : (most n : ℕ) (rest : List ℕ) → IsCount n → n ≤ most → few_scan most (spelled_count n ++ rest) ≡ Ok (n, rest)
unfolding few_scan
few_again most n rest fit few = rw (count_again n rest fit, le-ltb most n few) refl
