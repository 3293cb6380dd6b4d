-- Lines of what was recorded, one after another.
use Rattle.std.proofs.Common.{◌≡◌, ℕ, List, [], ◌∷◌, ◌++◌, length, refl, sym, ap, ◌∙◌, arith, append_assoc, append-nil}
use Rattle.std.specs.List.{flat_map}
use Rattle.lg_text.specs.Meaning.Lines.{lines_of}
use Rattle.lg_replay.specs.Meaning.Words.{recorded_line, recorded_text}

pub recorded_more : (rest line after text longer whole : List ℕ) → lines_of rest ≡ line ∷ lines_of after
    → text ++ recorded_text rest ≡ whole → longer ≡ text ++ recorded_line line → longer ++ recorded_text after ≡ whole
unfolding recorded_text
recorded_more rest line after text longer whole cut so_far wrote =
    ap (λ (t : List ℕ). t ++ flat_map recorded_line (lines_of after)) wrote
    ∙ append_assoc text (recorded_line line) (flat_map recorded_line (lines_of after))
    ∙ ap (λ (ls : List (List ℕ)). text ++ flat_map recorded_line ls) (sym cut)
    ∙ so_far

none_left : (rest : List ℕ) → length rest ≡ 0 → rest ≡ []
none_left [] e = refl
none_left (b ∷ bs) e = absurd (omega arith)

pub recorded_all : (rest text whole : List ℕ) → length rest ≡ 0 → text ++ recorded_text rest ≡ whole → text ≡ whole
unfolding recorded_text
recorded_all rest text whole none so_far =
    sym (append-nil text) ∙ ap (λ (r : List ℕ). text ++ recorded_text r) (sym (none_left rest none)) ∙ so_far
