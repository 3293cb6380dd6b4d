-- What a text of keys is where a third line begins.
use Rattle.std.proofs.Common.{◌≡◌, ℕ, ◌<◌, Bool, true, false, cond, eqb, List, [], ◌∷◌, length, Err, refl, arith}
use Rattle.lg_text.specs.Meaning.Lines.{lines_of, onto_first}
use Rattle.lg_seal.specs.Meaning.Reading.{both_keys}
use Rattle.lg_seal.specs.declared.fault.KeyFault.TheVariants.{TooManyLines}

third_line : (first second : List ℕ) (b : ℕ) (ends : Bool) (lines : List (List ℕ))
    → both_keys first second (cond ends ([] ∷ lines) (onto_first b lines)) ≡ Err TooManyLines
third_line first second b true lines = refl
third_line first second b false [] = refl
third_line first second b false (line ∷ lines) = refl

pub too_many : (first second text : List ℕ) → 0 < length text
    → both_keys first second (lines_of text) ≡ Err TooManyLines
too_many first second [] some = absurd (omega arith)
too_many first second (b ∷ bs) some = third_line first second b (eqb b 10) (lines_of bs)
