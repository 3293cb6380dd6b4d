-- Verdicts, counted one after another, and whether there is one of a kind.
use Rattle.std.proofs.Common.{◌≡◌, ℕ, ◌+◌, ◌<◌, Bool, true, false, cond, ◌||◌, List, [], ◌∷◌, ◌++◌, length, refl, sym, ap, subst, ◌∙◌, arith, length-append}
use Rattle.std.specs.Prelude.{filter}
use Rattle.std.proofs.lemmas.List.Elements.{filter-append}
use Rattle.std.specs.List.{list_any}
use Rattle.lg_replay.specs.Meaning.Verdicts.{counts_of, is_differing, is_unchecked}
use Rattle.lg_replay.specs.Support.Counted.{HasCounts}
use Rattle.lg_replay.specs.declared.counts.ReplayCounts.{ReplayCounts}
use Rattle.lg_replay.specs.declared.verdict.Verdict.{Verdict}
use Rattle.lg_replay.specs.declared.verdict.Verdict.TheVariants.{Same, Differs, Unchecked}

kept_last : (p : Verdict → Bool) (vs : List Verdict) (v : Verdict) → length (filter p (vs ++ v ∷ [])) ≡ length (filter p vs) + length (filter p (v ∷ []))
kept_last p vs v = ap length (filter-append p vs (v ∷ [])) ∙ length-append (filter p vs) (filter p (v ∷ []))

last_more : (vs : List Verdict) (v : Verdict) → length (vs ++ v ∷ []) ≡ length vs + 1
last_more vs v = omega (arith, length-append vs (v ∷ []))

pub same_counted : (old new : ReplayCounts) (vs : List Verdict) → new.entries ≡ old.entries + 1 → new.differing ≡ old.differing → new.unchecked ≡ old.unchecked
    → HasCounts old vs → HasCounts new (vs ++ Same ∷ [])
same_counted old new vs entries differing unchecked has = record {
  entries = omega (arith, last_more vs Same, has.entries, entries);
  differing = omega (arith, kept_last is_differing vs Same, has.differing, differing);
  unchecked = omega (arith, kept_last is_unchecked vs Same, has.unchecked, unchecked);
}

pub differing_counted : (old new : ReplayCounts) (vs : List Verdict) → new.entries ≡ old.entries + 1 → new.differing ≡ old.differing + 1 → new.unchecked ≡ old.unchecked
    → HasCounts old vs → HasCounts new (vs ++ Differs ∷ [])
differing_counted old new vs entries differing unchecked has = record {
  entries = omega (arith, last_more vs Differs, has.entries, entries);
  differing = omega (arith, kept_last is_differing vs Differs, has.differing, differing);
  unchecked = omega (arith, kept_last is_unchecked vs Differs, has.unchecked, unchecked);
}

pub unchecked_counted : (old new : ReplayCounts) (vs : List Verdict) → new.entries ≡ old.entries + 1 → new.differing ≡ old.differing → new.unchecked ≡ old.unchecked + 1
    → HasCounts old vs → HasCounts new (vs ++ Unchecked ∷ [])
unchecked_counted old new vs entries differing unchecked has = record {
  entries = omega (arith, last_more vs Unchecked, has.entries, entries);
  differing = omega (arith, kept_last is_differing vs Unchecked, has.differing, differing);
  unchecked = omega (arith, kept_last is_unchecked vs Unchecked, has.unchecked, unchecked);
}

-- ---- whether there is one

none_counted : (p : Verdict → Bool) (vs : List Verdict) → length (filter p vs) ≡ 0 → list_any p vs ≡ false
none_counted p [] e = refl
none_counted p (v ∷ vs) e = by_first (p v) refl e (none_counted p vs)
  where
    by_first : (b : Bool) → p v ≡ b → length (filter p (v ∷ vs)) ≡ 0 → (length (filter p vs) ≡ 0 → list_any p vs ≡ false) → list_any p (v ∷ vs) ≡ false
    by_first true is none rest =
        let one : length (v ∷ filter p vs) ≡ 0 = subst (λ (c : Bool). length (cond c (v ∷ filter p vs) (filter p vs)) ≡ 0) is none in
        absurd (omega (arith, one))
    by_first false is none rest =
        let fewer : length (filter p vs) ≡ 0 = subst (λ (c : Bool). length (cond c (v ∷ filter p vs) (filter p vs)) ≡ 0) is none in
        ap (λ (c : Bool). c || list_any p vs) is ∙ rest fewer

some_counted : (p : Verdict → Bool) (vs : List Verdict) → 0 < length (filter p vs) → list_any p vs ≡ true
some_counted p [] e = absurd (omega arith)
some_counted p (v ∷ vs) e = by_first (p v) refl e (some_counted p vs)
  where
    by_first : (b : Bool) → p v ≡ b → 0 < length (filter p (v ∷ vs)) → (0 < length (filter p vs) → list_any p vs ≡ true) → list_any p (v ∷ vs) ≡ true
    by_first true is some rest = ap (λ (c : Bool). c || list_any p vs) is
    by_first false is some rest =
        let fewer : 0 < length (filter p vs) = subst (λ (c : Bool). 0 < length (cond c (v ∷ filter p vs) (filter p vs))) is some in
        ap (λ (c : Bool). c || list_any p vs) is ∙ rest fewer

pub differs_not : (counts : ReplayCounts) (vs : List Verdict) → HasCounts counts vs → counts.differing ≡ 0 → list_any is_differing vs ≡ false
differs_not counts vs has none = none_counted is_differing vs (sym has.differing ∙ none)

pub differs_some : (counts : ReplayCounts) (vs : List Verdict) → HasCounts counts vs → 0 < counts.differing → list_any is_differing vs ≡ true
differs_some counts vs has some = some_counted is_differing vs (omega (arith, has.differing))

pub unchecked_not : (counts : ReplayCounts) (vs : List Verdict) → HasCounts counts vs → counts.unchecked ≡ 0 → list_any is_unchecked vs ≡ false
unchecked_not counts vs has none = none_counted is_unchecked vs (sym has.unchecked ∙ none)

pub unchecked_some : (counts : ReplayCounts) (vs : List Verdict) → HasCounts counts vs → 0 < counts.unchecked → list_any is_unchecked vs ≡ true
unchecked_some counts vs has some = some_counted is_unchecked vs (omega (arith, has.unchecked))

-- ---- the counts of some verdicts

abbrev counts : ℕ → ℕ → ℕ → ReplayCounts
counts entries differing unchecked = record { entries = entries; differing = differing; unchecked = unchecked }

pub counted : (c : ReplayCounts) (vs : List Verdict) → HasCounts c vs → c ≡ counts_of vs
counted c vs has =
    ap (λ (n : ℕ). counts n c.differing c.unchecked) has.entries
    ∙ ap (λ (n : ℕ). counts (length vs) n c.unchecked) has.differing
    ∙ ap (λ (n : ℕ). counts (length vs) (length (filter is_differing vs)) n) has.unchecked
