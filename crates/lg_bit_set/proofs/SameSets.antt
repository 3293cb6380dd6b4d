-- Two sets are equal if their words are.
use Rattle.std.proofs.Common.{◌≡◌, Bool, true, false, ℕ, List, refl, sym, ap, ◌∙◌}
use Rattle.std.proofs.Math.Bool.{beq}
use Rattle.std.specs.Bool.{Decides}
use Rattle.std.specs.Cmp.Lexicographic.{pointwise}
use Rattle.std.specs.Prelude.{nat_eq}
use Rattle.std.proofs.lemmas.Bool.Decides.{same_from_decides, Decides-eqb}
use Rattle.std.proofs.lemmas.Slice.Eq.{slice_eq-Decides}
use Rattle.lg_bit_set.specs.Support.Words.{AreWords, flags_of, words_from, words_of_flags}

beq-Decides : (a b : Bool) → Decides (beq a b) (a ≡ b)
beq-Decides true true = (λ _. refl, λ _. refl)
beq-Decides true false = (λ e. cc, λ e. cc)
beq-Decides false true = (λ e. cc, λ e. cc)
beq-Decides false false = (λ _. refl, λ _. refl)

pub same_sets : (words others : List ℕ) → AreWords words → AreWords others → (result : Bool)
    → result ≡ pointwise nat_eq words others → result ≡ pointwise beq (flags_of words) (flags_of others)
same_sets words others are also result e =
    let by_words = slice_eq-Decides Decides-eqb words others result e in
    let by_flags =
    slice_eq-Decides beq-Decides (flags_of words) (flags_of others)
    (pointwise beq (flags_of words) (flags_of others)) refl in
    let back : flags_of words ≡ flags_of others → words ≡ others =
    λ same. sym (words_of_flags words are) ∙ ap (words_from 4) same ∙ words_of_flags others also in
    same_from_decides result (pointwise beq (flags_of words) (flags_of others))
    (λ yes. ap flags_of (by_words.0 yes), λ same. by_words.1 (back same)) by_flags
