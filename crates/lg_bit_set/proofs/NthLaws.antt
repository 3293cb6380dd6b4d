-- The number at an index among those whose flags are set.
use Rattle.std.proofs.Common.{
  ◌≡◌,
  ℕ,
  zero,
  suc,
  ◌+◌,
  ◌-◌,
  ◌*◌,
  ◌^◌,
  ◌<◌,
  ◌≤◌,
  Bool,
  List,
  [],
  ◌∷◌,
  ◌++◌,
  length,
  get_or,
  drop,
  Some,
  None,
  refl,
  sym,
  ap,
  ◌∙◌,
  arith,
}
use Rattle.std.specs.Prelude.{bit_and}
use Rattle.std.specs.List.{slice_get}
use Rattle.std.specs.Option.{option_map}
use Rattle.std.specs.Int.Count.{ones, count_trailing_zeros}
use Rattle.std.proofs.lemmas.Nat.{and_le_l}
use Rattle.std.proofs.lemmas.List.{drop_more, drop_all, drop-drop}
use Rattle.lg_bit_set.specs.Meaning.Flags.{numbers_from, numbers_of, nth_number, count_set}
use Rattle.lg_bit_set.specs.Support.Steps.{IsLeftOver}
use Rattle.lg_bit_set.specs.Support.Words.{word_flags, flags_of, length-word_flags}
use Rattle.lg_bit_set.proofs.Numbers.{nth_number-left, nth_number-right, length-numbers_from}
use Rattle.lg_bit_set.proofs.WordFlags.{numbers_step, count_set-word_flags}

some_bits : (rest : ℕ) → 0 < ones rest → 0 < rest
unfolding ones
some_bits zero some = some
some_bits (suc rest) some = omega arith

pub IsLeftOver-some : (word cleared rest : ℕ) → cleared < ones word → IsLeftOver word cleared rest → 0 < rest
IsLeftOver-some word cleared rest more left = some_bits rest (omega (arith, left.count))

drop_first : (cleared first : ℕ) (numbers rest : List ℕ) → first ∷ rest ≡ drop cleared numbers
    → rest ≡ drop (cleared + 1) numbers
drop_first cleared first numbers rest e = ap (drop 1) e ∙ drop-drop 1 cleared numbers

pub IsLeftOver-more : (word cleared rest : ℕ) → cleared < ones word → IsLeftOver word cleared rest
    → IsLeftOver word (cleared + 1) (bit_and rest (rest - 1))
IsLeftOver-more word cleared rest more left =
    let some = IsLeftOver-some word cleared rest more left in
    let step = numbers_step 64 rest 0 some left.fits in
    let less : ℕ = bit_and rest (rest - 1) in
    let fits : less < 2 ^ 64 = omega (arith, and_le_l rest (rest - 1), left.fits) in
    record {
      numbers = drop_first cleared _ (numbers_of (word_flags 64 word)) (numbers_of (word_flags 64 less))
          (sym step ∙ left.numbers);
      count =
          omega (
            arith,
            left.count,
            ap length step,
            length-numbers_from 0 (word_flags 64 rest),
            length-numbers_from 0 (word_flags 64 less),
            count_set-word_flags 64 rest left.fits,
            count_set-word_flags 64 less fits,
          );
      fits = fits;
    }

pub slice_get-drop : (numbers : List ℕ) (index : ℕ) → slice_get numbers index ≡ slice_get (drop index numbers) 0
slice_get-drop [] zero = refl
slice_get-drop [] (suc index) = refl
slice_get-drop (number ∷ numbers) zero = refl
slice_get-drop (number ∷ numbers) (suc index) = slice_get-drop numbers index

pub IsLeftOver-end : (word cleared rest : ℕ) → cleared < ones word → IsLeftOver word cleared rest
    → nth_number (word_flags 64 word) cleared ≡ Some (count_trailing_zeros 64 rest)
IsLeftOver-end word cleared rest more left =
    let some = IsLeftOver-some word cleared rest more left in
    slice_get-drop (numbers_of (word_flags 64 word)) cleared
    ∙ ap (λ l. slice_get l 0) (sym left.numbers ∙ numbers_step 64 rest 0 some left.fits)
    ∙ ap Some (omega arith)

-- the number at an index, if the word at i has so many
first_word : (words : List ℕ) (i : ℕ) → i < length words
    → flags_of (drop i words) ≡ word_flags 64 (get_or words i 0) ++ flags_of (drop (i + 1) words)
unfolding flags_of
first_word words i within = ap flags_of (drop_more words i 0 within)

pub nth_here : (words : List ℕ) (i left place : ℕ) → i < length words → ((j : ℕ) → get_or words j 0 < 2 ^ 64)
    → left < ones (get_or words i 0) → nth_number (word_flags 64 (get_or words i 0)) left ≡ Some place
    → slice_get (numbers_from (64 * i) (flags_of (drop i words))) left ≡ Some (64 * i + place)
nth_here words i left place within fit few at =
    let flags : List Bool = word_flags 64 (get_or words i 0) in
    ap (λ l. slice_get (numbers_from (64 * i) l) left) (first_word words i within)
    ∙ nth_number-left (64 * i) flags (flags_of (drop (i + 1) words)) left
    (omega (arith, count_set-word_flags 64 (get_or words i 0) (fit i)))
    ∙ ap (option_map (λ n. 64 * i + n)) at

-- and if it doesn't
pub nth_later : (words : List ℕ) (i left : ℕ) → i < length words → ((j : ℕ) → get_or words j 0 < 2 ^ 64)
    → ones (get_or words i 0) ≤ left
    → slice_get (numbers_from (64 * i) (flags_of (drop i words))) left
    ≡ slice_get (numbers_from (64 * (i + 1)) (flags_of (drop (i + 1) words))) (left - ones (get_or words i 0))
nth_later words i left within fit many =
    let flags : List Bool = word_flags 64 (get_or words i 0) in
    let count = count_set-word_flags 64 (get_or words i 0) (fit i) in
    let long = length-word_flags 64 (get_or words i 0) in
    ap (λ l. slice_get (numbers_from (64 * i) l) left) (first_word words i within)
    ∙ nth_number-right (64 * i) flags (flags_of (drop (i + 1) words)) left (omega arith)
    ∙ ap (λ n. slice_get (numbers_from n (flags_of (drop (i + 1) words))) (left - count_set flags)) (omega arith)
    ∙ ap (λ n. slice_get (numbers_from (64 * (i + 1)) (flags_of (drop (i + 1) words))) (left - n)) count

pub nth_none : (words : List ℕ) (i left first : ℕ) → length words ≤ i
    → slice_get (numbers_from first (flags_of (drop i words))) left ≡ None
unfolding flags_of
nth_none words i left first past = ap (λ l. slice_get (numbers_from first (flags_of l)) left) (drop_all i words past)
