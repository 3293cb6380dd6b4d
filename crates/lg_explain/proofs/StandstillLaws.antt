-- Which of the times at which the clock stood still can be dropped.
use Rattle.std.proofs.Common.{◌≡◌, ℕ, ◌+◌, ◌-◌, ◌^◌, ◌≤◌, Bool, true, false, List, [], ◌∷◌, ◌++◌, refl, sym, ap, ◌∙◌, arith}
use Rattle.std.specs.Prelude.{filter, cond, min, nat_lt, if◌then◌else◌}
use Rattle.std.specs.List.{sum_by}
use Rattle.std.proofs.lemmas.List.Sums.{sum_by-cons, sum_by_push}
use Rattle.std.proofs.lemmas.Grind.{common_steps}
use Rattle.lg_explain.specs.Meaning.Rounds.{recent_ms}
use Rattle.lg_explain.specs.Meaning.Standstills.{recent_stood, stood_at, stood_in_minute}
use Rattle.lg_explain.specs.Support.Standstills.{KeepsStood}
use Rattle.lg_explain.specs.declared.standstills.StoodStill.{StoodStill}

abbrev pub is_within : ℕ → StoodStill → Bool
is_within now stood = nat_lt now (stood.moment + recent_ms)

none_more : (n : ℕ) → 0 + n ≡ n
none_more n = omega arith

-- those that a test leaves out, and that make up nothing, don't count
sums_kept : (f : StoodStill → ℕ) (q : StoodStill → Bool) → ((x : StoodStill) → q x ≡ false → f x ≡ 0) → (xs : List StoodStill)
    → sum_by f (filter q xs) ≡ sum_by f xs
sums_kept f q nothing [] = refl
sums_kept f q nothing (x ∷ xs) = by_test (q x) refl (sums_kept f q nothing xs)
  where
    by_test : (b : Bool) → q x ≡ b → sum_by f (filter q xs) ≡ sum_by f xs → sum_by f (cond (q x) (x ∷ filter q xs) (filter q xs)) ≡ sum_by f (x ∷ xs)
    by_test true is so = rw is (sum_by-cons f x (filter q xs) ∙ ap (λ (n : ℕ). f x + n) so ∙ sym (sum_by-cons f x xs))
    by_test false is so =
        rw is (so ∙ sym (sum_by-cons f x xs ∙ ap (λ (n : ℕ). n + sum_by f xs) (nothing x is) ∙ none_more (sum_by f xs)))

-- what isn't recent at a moment makes up nothing at a later one
late : (before now : ℕ) (stood : StoodStill) → before ≤ now → is_within before stood ≡ false → recent_stood now stood ≡ 0
late before now stood le isnt =
    let later : is_within now stood ≡ false = grind (arith, common_steps) in
    ap (λ (b : Bool). if b then stood.milliseconds else 0) later

pub stays_longer : (kept all : List StoodStill) (before now : ℕ) → before ≤ now → KeepsStood kept before all → KeepsStood kept now all
stays_longer kept all before now le keeps = λ later more. keeps later (omega arith)

pub stays_filtered : (kept all : List StoodStill) (now : ℕ) → KeepsStood kept now all → KeepsStood (filter (is_within now) kept) now all
stays_filtered kept all now keeps = λ later more.
    sums_kept (recent_stood later) (is_within now) (λ stood isnt. late now later stood more isnt) kept ∙ keeps later more

-- one more makes up as much wherever it stands
pub stays_one_more : (kept all : List StoodStill) (now : ℕ) (stood : StoodStill) → KeepsStood kept now all → KeepsStood (kept ++ stood ∷ []) now (stood ∷ all)
stays_one_more kept all now stood keeps = λ later more.
    let one = sum_by_push (recent_stood later) kept stood in
    let other = sum_by-cons (recent_stood later) stood all in
    let same = keeps later more in
    one ∙ (omega (arith, same) ∙ sym other)

-- with those that are kept, as with all
pub stood_of_kept : (now milliseconds : ℕ) (kept all : List StoodStill) → sum_by (recent_stood now) kept ≡ sum_by (recent_stood now) all
    → stood_in_minute now (stood_at now milliseconds ∷ kept) ≡ stood_in_minute now (stood_at now milliseconds ∷ all)
stood_of_kept now milliseconds kept all same =
    let one = sum_by-cons (recent_stood now) (stood_at now milliseconds) kept in
    let other = sum_by-cons (recent_stood now) (stood_at now milliseconds) all in
    ap (λ (n : ℕ). min n (2 ^ 64 - 1)) (one ∙ (ap (λ (n : ℕ). recent_stood now (stood_at now milliseconds) + n) same ∙ sym other))
