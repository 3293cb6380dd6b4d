-- The first line of a text and the rest, cut at the first newline.
use Rattle.std.proofs.Common.{◌≡◌, ℕ, ◌+◌, ◌<◌, ◌≤◌, suc, Bool, true, false, not, cond, eqb, List, [], ◌∷◌, length, take, drop, Option, Some, None, unwrap_or, refl, arith, length-drop, length-take}
use Rattle.std.specs.Borrow.{Bor}
use Rattle.std.specs.Option.{option_map}
use Rattle.lg_text.specs.Meaning.Cutting.{before, behind}
use Rattle.lg_text.specs.Meaning.Lines.{lines_of, onto_first}
use Rattle.lg_text.proofs.CuttingLaws.{place, before-is, none-behind, some-behind, whole-before}

cut_first : (b : ℕ) (bs : List ℕ) (found : Bool) → (place 10 bs < length bs → lines_of bs ≡ take (place 10 bs) bs ∷ lines_of (drop (suc (place 10 bs)) bs))
    → cond (not found) (1 + place 10 bs) 0 < length (b ∷ bs)
    → cond found ([] ∷ lines_of bs) (onto_first b (lines_of bs)) ≡ take (cond (not found) (1 + place 10 bs) 0) (b ∷ bs) ∷ lines_of (drop (suc (cond (not found) (1 + place 10 bs) 0)) (b ∷ bs))
cut_first b bs true more h = refl
cut_first b bs false more h =
    let one : 1 + place 10 bs ≡ suc (place 10 bs) = omega arith in
    rw (more (omega arith), one) refl

-- where there is a newline
lines_of-cut : (xs : List ℕ) → place 10 xs < length xs → lines_of xs ≡ take (place 10 xs) xs ∷ lines_of (drop (suc (place 10 xs)) xs)
lines_of-cut [] h = absurd (omega arith)
lines_of-cut (b ∷ bs) h = cut_first b bs (eqb b 10) (lines_of-cut bs) h

last_first : (b : ℕ) (bs : List ℕ) (found : Bool) → (0 < length bs → length bs ≤ place 10 bs → lines_of bs ≡ bs ∷ [])
    → length (b ∷ bs) ≤ cond (not found) (1 + place 10 bs) 0
    → cond found ([] ∷ lines_of bs) (onto_first b (lines_of bs)) ≡ (b ∷ bs) ∷ []
last_first b bs true more h = absurd (omega arith)
last_first b [] false more h = refl
last_first b (x ∷ xs) false more h = rw (more (omega arith) (omega arith)) refl

-- where there is none
lines_of-last : (xs : List ℕ) → 0 < length xs → length xs ≤ place 10 xs → lines_of xs ≡ xs ∷ []
lines_of-last [] some none = absurd (omega arith)
lines_of-last (b ∷ bs) some none = last_first b bs (eqb b 10) (lines_of-last bs) none

-- ---- the first line and the rest, which is empty if nothing is behind a newline

pub lines-cut : (xs first : List ℕ) (rest : Option (Bor (List ℕ))) (none : Bor (List ℕ)) → 0 < length xs → first ≡ before 10 xs → option_map (λ r. r.now) rest ≡ behind 10 xs → none.now ≡ []
    → lines_of xs ≡ first ∷ lines_of (unwrap_or rest none).now
lines-cut xs first None none some is cut empty =
    rw (is, whole-before 10 xs cut, empty) (lines_of-last xs some (none-behind 10 xs cut))
lines-cut xs first (Some rest) none some is cut empty =
    let found = some-behind 10 xs rest.now cut in
    let one : place 10 xs + 1 ≡ suc (place 10 xs) = omega arith in
    rw (is, before-is 10 xs, found.0, one) (lines_of-cut xs found.1)

pub line-within : (xs first : List ℕ) → first ≡ before 10 xs → length first ≤ length xs
line-within xs first is = rw (is, before-is 10 xs) (omega (arith, length-take (place 10 xs) xs))

pub rest-shorter : (xs : List ℕ) (rest : Option (Bor (List ℕ))) (none : Bor (List ℕ)) → 0 < length xs → option_map (λ r. r.now) rest ≡ behind 10 xs → none.now ≡ [] → length (unwrap_or rest none).now < length xs
rest-shorter xs None none some cut empty = rw empty some
rest-shorter xs (Some rest) none some cut empty =
    let found = some-behind 10 xs rest.now cut in
    rw found.0 (omega (arith, length-drop (place 10 xs + 1) xs, found.1))
