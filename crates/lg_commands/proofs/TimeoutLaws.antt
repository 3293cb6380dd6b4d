-- The lines of a suspicion's timeouts, and that good numbers make a good configuration.
use Rattle.std.proofs.Common.{◌≡◌, ℕ, ◌+◌, ◌-◌, Bool, true, false, ◌&&◌, nat_le, List, [], ◌∷◌, ◌++◌, map, refl, sym, ap, ap₂, ◌∙◌, arith, zero-add, append-nil, append_assoc}
use Rattle.std.specs.List.{flat_map, range_with_len}
use Rattle.std.proofs.lemmas.List.Concat.{flat_map-append}
use Rattle.std.proofs.lemmas.List.Folds.{flat_map-map}
use Rattle.std.proofs.lemmas.List.FromFn.{map-range_with_len_more}
use Rattle.std.proofs.lemmas.Bool.Decides.{nat_tests}
use Rattle.lg_timing.specs.Meaning.Config.{check_of, is_within, IsChecked}
use Rattle.lg_commands.specs.Meaning.Timeouts.{are_good, config_of}
use Rattle.lg_commands.specs.declared.timeouts.Numbers.{Numbers}

-- one line more
pub lines_more : (f : ℕ → List ℕ) (n : ℕ) → flat_map f (range_with_len 0 (n + 1)) ≡ flat_map f (range_with_len 0 n) ++ f n
lines_more f n =
    let id = λ (x : ℕ). x in
    sym (flat_map-map f id (range_with_len 0 (n + 1)))
    ∙ ap (λ (xs : List ℕ). flat_map f xs) (map-range_with_len_more id 0 n n (zero-add n))
    ∙ flat_map-append f (map id (range_with_len 0 n)) (n ∷ [])
    ∙ ap₂ (λ (xs ys : List ℕ). xs ++ ys) (flat_map-map f id (range_with_len 0 n)) (append-nil (f n))

-- a text of the lines so far, with the next one behind it
pub with_line : (f : ℕ → List ℕ) (n : ℕ) (before now after line : List ℕ) → now ≡ before ++ flat_map f (range_with_len 0 n) → after ≡ now ++ line → line ≡ f n
    → after ≡ before ++ flat_map f (range_with_len 0 (n + 1))
with_line f n before now after line so_far next is =
    next ∙ ap₂ (λ (xs ys : List ℕ). xs ++ ys) so_far is ∙ append_assoc before (flat_map f (range_with_len 0 n)) (f n)
    ∙ ap (λ (xs : List ℕ). before ++ xs) (sym (lines_more f n))

tests_of : (members confirmations alpha beta interval : Bool) → (members && (confirmations && (alpha && (beta && interval)))) ≡ true
    → (confirmations ≡ true) × (alpha ≡ true) × (beta ≡ true) × (interval ≡ true)
tests_of true true true true true h = (refl, refl, refl, refl)
tests_of true true true true false h = absurd cc
tests_of true true true false interval h = absurd cc
tests_of true true false beta interval h = absurd cc
tests_of true false alpha beta interval h = absurd cc
tests_of false confirmations alpha beta interval h = absurd cc

-- good numbers make a configuration that passes its check
pub good_is_checked : (n : Numbers) → are_good n ≡ true → IsChecked (config_of n)
unfolding check_of
good_is_checked n good =
    let tests = tests_of (is_within 1 256 n.members) (is_within 0 5 n.confirmations) (is_within 1 20 n.alpha) (is_within 1 20 n.beta) (is_within 10 60000 n.interval_ms) good in
    let long : nat_le 1 (n.interval_ms - 1) ≡ true = grind (arith, nat_tests) in
    rw (tests.0, tests.1, tests.2, tests.3, long) refl

-- a text that three pieces were put behind, where it was empty
pub joined : (empty first second whole least greatest after : List ℕ) → empty ≡ [] → first ≡ empty ++ least → second ≡ first ++ greatest → whole ≡ second ++ after
    → whole ≡ least ++ greatest ++ after
joined empty first second whole least greatest after none a b c =
    c ∙ ap (λ (xs : List ℕ). xs ++ after) (b ∙ ap (λ (xs : List ℕ). xs ++ greatest) (a ∙ ap (λ (xs : List ℕ). xs ++ least) none))
