-- The number of a text, by what reading it gives.
use Rattle.std.proofs.Common.{◌≡◌, ℕ, ◌<◌, ◌≤◌, ◌^◌, Bool, true, false, leb, List, length, Some, None, Result, Ok, Err, MatchResult, refl, ap, arith, rules}
use Rattle.std.specs.Borrow.{Bor}
use Rattle.std.specs.Char.{is_ascii_digit}
use Rattle.std.specs.List.{list_all}
use Rattle.std.specs.Result.{result_ok, OkIff}
use Rattle.std.specs.Str.{IsUtf8}
use Rattle.std.specs.Str.Parse.{digits_value, ParsesUnsigned}
use Rattle.std.proofs.lemmas.Bool.{le-leb, leb-true}
use Rattle.std.proofs.lemmas.Fmt.{IsAscii-from_digits}
use Rattle.std.proofs.lemmas.Str.{IsUtf8-from_ascii}
use Rattle.std.proofs.lemmas.Str.Parse.{IsNumeralModel, digits_value_short, numerals_by_value, parse_digits}
use Rattle.lg_text.specs.Meaning.Numbers.{number_of}

digits : IsNumeralModel (λ ds. list_all is_ascii_digit ds ≡ true) (digits_value 10)
digits = numerals_by_value (λ ds. list_all is_ascii_digit ds ≡ true) (search rules)

-- digits are UTF-8
digits_are_utf8 : (text : List ℕ) → list_all is_ascii_digit text ≡ true → IsUtf8 text
digits_are_utf8 text good = IsUtf8-from_ascii text (IsAscii-from_digits text (digits.to text good))

-- so they are taken for a text
pub taken : {E : Type 0} (text : List ℕ) (r : Result (Bor (List ℕ)) E) (Q : E → Type 0) → list_all is_ascii_digit text ≡ true
    → MatchResult r (λ s. (s.now ≡ text) × IsUtf8 text) (λ e. ¬ (IsUtf8 text) × Q e) → result_ok r ≡ None → ⊥
taken text (Ok s) Q good is none = absurd cc
taken text (Err e) Q good is none = is.0 (digits_are_utf8 text good)

pub same_text : {E : Type 0} (text : List ℕ) (r : Result (Bor (List ℕ)) E) (Q : E → Type 0) (s : Bor (List ℕ))
    → MatchResult r (λ s. (s.now ≡ text) × IsUtf8 text) (λ e. ¬ (IsUtf8 text) × Q e) → result_ok r ≡ Some s → s.now ≡ text
same_text text (Ok t) Q s is it = let same : t ≡ s = cc in rw (← same) is.0
same_text text (Err e) Q s is it = absurd cc

-- at most 16 digits are a number where there is one
pub read_number : {E : Type 0} (text : List ℕ) (r : Result ℕ E) → ParsesUnsigned 64 10 text r → length text ≤ 16 → list_all is_ascii_digit text ≡ true
    → result_ok r ≡ number_of text
read_number text r parses few good = go r (parse_digits digits 64 text r parses good)
  where
    go : {E : Type 0} (r : Result ℕ E) → OkIff r ((0 < length text) × (digits_value 10 text < 2 ^ 64)) (digits_value 10 text) → result_ok r ≡ number_of text
    go (Ok n) is =
        let some : leb 1 (length text) ≡ true = le-leb 1 (length text) (omega (arith, is.0.0)) in
        let short : leb (length text) 16 ≡ true = le-leb (length text) 16 few in
        rw (some, short, good) (ap Some is.1)
    go (Err e) not_one = none (leb 1 (length text)) refl
      where
        none : (some : Bool) → leb 1 (length text) ≡ some → None ≡ number_of text
        none true is_some = absurd (not_one (omega (arith, leb-true 1 (length text) is_some), omega (arith, digits_value_short digits text 16 good few)))
        none false is_some = rw is_some refl
