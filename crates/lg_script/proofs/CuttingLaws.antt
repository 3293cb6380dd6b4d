-- The first part of a text and the rest, by the place of the first space.
use Rattle.std.proofs.Common.{◌≡◌, ℕ, ◌-◌, ◌≤◌, Bool, true, false, ◌&&◌, List, [], ◌∷◌, length, Option, Some, None, refl, sym, ap, ap₂, ◌∙◌, arith}
use Rattle.std.specs.Borrow.{Bor}
use Rattle.std.specs.List.{count_by, list_all}
use Rattle.std.specs.Option.{option_map}
use Rattle.std.proofs.lemmas.List.Elements.{All-from_get_or}
use Rattle.std.proofs.lemmas.List.Splits.{length-slice_split, slice_split_first, slice_split_none}
use Rattle.std.proofs.lemmas.List.Sums.{fails_before_first}
use Rattle.lg_text.specs.Meaning.Cutting.{before, behind, is_byte}
use Rattle.lg_text.proofs.CuttingLaws.{place, before-is, none-behind, some-behind, whole-before}
use Rattle.lg_script.specs.Meaning.Words.{are_words_of, is_filled, parts_of, takes_words}
use Rattle.lg_script.specs.declared.verb.Verb.{Verb}
use Rattle.lg_script.specs.Support.Cutting.{words_left}

one_part : (xs : List ℕ) → length xs ≤ place 32 xs → parts_of xs ≡ xs ∷ []
one_part xs none =
    slice_split_none (is_byte 32) xs (All-from_get_or (λ x. is_byte 32 x ≡ false) xs 0 (λ i h. fails_before_first (is_byte 32) xs i 0 (omega (arith, none, h))))

pub parts-cut : (xs first : List ℕ) (rest : Option (Bor (List ℕ))) → first ≡ before 32 xs → option_map (λ r. r.now) rest ≡ behind 32 xs
    → parts_of xs ≡ first ∷ words_left rest
parts-cut xs first None is none =
    rw (one_part xs (none-behind 32 xs none), is, whole-before 32 xs none) refl
parts-cut xs first (Some rest) is some =
    let found = some-behind 32 xs rest.now some in
    slice_split_first (is_byte 32) xs 0 found.1 ∙ ap₂ (λ p (r : List ℕ). p ∷ parts_of r) (sym (is ∙ before-is 32 xs)) (sym found.0)

-- ---- how many words there are behind the first

behind_first : (line : List ℕ) → length (parts_of line) - 1 ≡ count_by (is_byte 32) line
behind_first line = omega (arith, length-slice_split (is_byte 32) line)

judged : (t good : Bool) → t ≡ true → good ≡ (t && good)
judged t good e = rw e refl

pub words-some : (verb : Verb) (line : List ℕ) (good : Bool) → takes_words verb (count_by (is_byte 32) line) ≡ true → good ≡ list_all is_filled (parts_of line) → good ≡ are_words_of verb (parts_of line)
words-some verb line good taken is =
    is ∙ judged (takes_words verb (length (parts_of line) - 1)) (list_all is_filled (parts_of line)) (ap (takes_words verb) (behind_first line) ∙ taken)

refused : (t good r : Bool) → r ≡ t → r ≡ false → r ≡ (t && good)
refused t good r is none = rw (← is, none) refl

pub words-none : (verb : Verb) (line : List ℕ) (taken : Bool) → takes_words verb (count_by (is_byte 32) line) ≡ taken → taken ≡ false → taken ≡ are_words_of verb (parts_of line)
words-none verb line taken is none =
    refused (takes_words verb (length (parts_of line) - 1)) (list_all is_filled (parts_of line)) taken (sym is ∙ ap (takes_words verb) (sym (behind_first line))) none
