-- Which ends of rounds can be dropped.
use Rattle.std.proofs.Common.{◌≡◌, ℕ, ◌+◌, ◌≤◌, Bool, true, false, List, [], ◌∷◌, ◌++◌, refl, sym, ap, ◌∙◌, arith}
use Rattle.std.specs.Prelude.{count_by, filter, cond}
use Rattle.std.proofs.lemmas.List.Sums.{sum_by-cons, sum_by_push}
use Rattle.std.proofs.lemmas.Grind.{common_steps}
use Rattle.lg_explain.specs.declared.rounds.RecentRounds.{RecentRounds}
use Rattle.lg_explain.specs.Meaning.Rounds.{is_recent, is_recent_suspecting, recent_rounds}
use Rattle.lg_explain.specs.Support.Ends.{KeepsEnds}
use Rattle.lg_explain.specs.declared.rounds.RoundEnd.{RoundEnd}

module _ {X : Type 0} (p : X → Bool) where
  -- one more counts wherever it stands
  pub counts_push : (xs : List X) (y : X) (n : ℕ) → count_by p xs ≡ n → count_by p (xs ++ y ∷ []) ≡ cond (p y) 1 0 + n
  counts_push xs y n is = omega (arith, sum_by_push (λ (x : X). cond (p x) 1 0) xs y)

  pub counts_cons : (xs : List X) (y : X) → count_by p (y ∷ xs) ≡ cond (p y) 1 0 + count_by p xs
  counts_cons xs y = sum_by-cons (λ (x : X). cond (p x) 1 0) y xs

  none_more : (n : ℕ) → cond false 1 0 + n ≡ n
  none_more n = omega arith

  -- those that a weaker test leaves out don't count
  pub counts_kept : (q : X → Bool) → ((x : X) → q x ≡ false → p x ≡ false) → (xs : List X) → count_by p (filter q xs) ≡ count_by p xs
  counts_kept q weaker [] = refl
  counts_kept q weaker (x ∷ xs) = by_test (q x) refl (counts_kept q weaker xs)
    where
      by_test : (b : Bool) → q x ≡ b → count_by p (filter q xs) ≡ count_by p xs → count_by p (cond (q x) (x ∷ filter q xs) (filter q xs)) ≡ count_by p (x ∷ xs)
      by_test true is so = rw is (counts_cons (filter q xs) x ∙ ap (λ (n : ℕ). cond (p x) 1 0 + n) so ∙ sym (counts_cons xs x))
      by_test false is so =
          let none : p x ≡ false = weaker x is in
          rw is (so ∙ sym (counts_cons xs x ∙ ap (λ (b : Bool). cond b 1 0 + count_by p xs) none ∙ none_more (count_by p xs)))

-- what isn't recent at a moment isn't at a later one
late : (before now : ℕ) (end : RoundEnd) → before ≤ now → is_recent before end ≡ false → is_recent now end ≡ false
late before now end le isnt = grind (arith, common_steps)

late_suspecting : (before now : ℕ) (end : RoundEnd) → before ≤ now → is_recent before end ≡ false → is_recent_suspecting now end ≡ false
late_suspecting before now end le isnt = rw (late before now end le isnt) refl

pub keeps_longer : (kept all : List RoundEnd) (before now : ℕ) → before ≤ now → KeepsEnds kept before all → KeepsEnds kept now all
keeps_longer kept all before now le keeps = λ later more. keeps later (omega arith)

pub keeps_filtered : (kept all : List RoundEnd) (now : ℕ) → KeepsEnds kept now all → KeepsEnds (filter (is_recent now) kept) now all
keeps_filtered kept all now keeps = λ later more.
    both later (filter (is_recent now) kept) kept (counts_kept (is_recent later) (is_recent now) (λ end isnt. late now later end more isnt) kept)
    (counts_kept (is_recent_suspecting later) (is_recent now) (λ end isnt. late_suspecting now later end more isnt) kept)
    ∙ keeps later more
  where
    both : (later : ℕ) (xs ys : List RoundEnd) → count_by (is_recent later) xs ≡ count_by (is_recent later) ys
        → count_by (is_recent_suspecting later) xs ≡ count_by (is_recent_suspecting later) ys → recent_rounds later xs ≡ recent_rounds later ys
    both later xs ys e s = cc

pub keeps_one_more : (kept all : List RoundEnd) (now : ℕ) (end : RoundEnd) → KeepsEnds kept now all → KeepsEnds (kept ++ end ∷ []) now (end ∷ all)
keeps_one_more kept all now end keeps = λ later more.
    let is = keeps later more in
    let e : count_by (is_recent later) (kept ++ end ∷ []) ≡ count_by (is_recent later) (end ∷ all) =
    counts_push (is_recent later) kept end _ (ap (λ (r : RecentRounds). r.ended) is) ∙ sym (counts_cons (is_recent later) all end) in
    let s : count_by (is_recent_suspecting later) (kept ++ end ∷ []) ≡ count_by (is_recent_suspecting later) (end ∷ all) =
    counts_push (is_recent_suspecting later) kept end _ (ap (λ (r : RecentRounds). r.suspected) is) ∙ sym (counts_cons (is_recent_suspecting later) all end) in
    cc
