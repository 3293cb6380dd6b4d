-- The words of a set in which a place is closed.
use Rattle.std.proofs.Common.{
  ◌≡◌,
  ◌≢◌,
  ℕ,
  ◌+◌,
  ◌-◌,
  ◌*◌,
  ◌/◌,
  ◌%◌,
  ◌^◌,
  ◌<◌,
  ◌≤◌,
  Bool,
  false,
  List,
  [],
  ◌∷◌,
  length,
  get_or,
  set,
  refl,
  sym,
  ap,
  ◌∙◌,
  arith,
  inl,
  inr,
  length-append,
}
use Rattle.std.specs.Prelude.{nat_eq}
use Rattle.std.specs.List.{remove}
use Rattle.std.specs.Int.{bit_at}
use Rattle.std.proofs.lemmas.Bool.{cases_lt, cases_eq}
use Rattle.std.proofs.lemmas.Nat.Bits.{bit_at-suc, bit_at_above}
use Rattle.std.proofs.Math.Numerals.{add-one}
use Rattle.std.proofs.lemmas.List.{get_or-set_other, get_or_append_left, get_or_push}
use Rattle.std.proofs.lemmas.List.Edits.{length-remove, get_or-remove_below, get_or-remove_above}
use Rattle.lg_bit_set.specs.Meaning.Flags.{closed_flags}
use Rattle.lg_bit_set.specs.Support.Steps.{AreFallen}
use Rattle.lg_bit_set.specs.Support.Words.{AreWords, bit_flag, flags_of}
use Rattle.lg_bit_set.proofs.SetFlags.{AreWords-set, flags_from_bits, flags_long, get_or-flags_of}
use Rattle.lg_bit_set.proofs.Opening.{bit_flag-set_same, bit_flag-set_other}

halved : (word i : ℕ) → bit_at (word / 2) i ≡ bit_at word (i + 1)
halved word i = sym (bit_at-suc word i) ∙ ap (bit_at word) (sym (add-one i))

-- the word with the place is closed first
module _ (before : List ℕ) (number word : ℕ) (within : number < 256) (fits : word < 2 ^ 64) (were : AreWords before)
    (below : (i : ℕ) → i < number % 64 → bit_at word i ≡ bit_at (get_or before (number / 64) 0) i)
    (above : (i : ℕ) → number % 64 ≤ i → i < 63 → bit_at word i ≡ bit_at (get_or before (number / 64) 0) (i + 1))
    (highest : bit_at word 63 ≡ 0) where
  at_word : number / 64 < length before
  at_word = rw were.four (omega arith)

  closed_under : (other : ℕ) → other < number → bit_flag (set before (number / 64) word) other ≡ bit_flag before other
  closed_under other under =
      elim (cases_eq (other / 64) (number / 64)) [
        | inl here ↦
            bit_flag-set_same before (number / 64) word other at_word here ∙ below (other % 64) (omega arith)
            ∙ rw here refl
        | inr there ↦ bit_flag-set_other before (number / 64) word other there
      ]

  closed_over : (other : ℕ) → number ≤ other → other + 1 < 64 * (number / 64 + 1)
      → bit_flag (set before (number / 64) word) other ≡ bit_flag before (other + 1)
  closed_over other over inside =
      let here : other / 64 ≡ number / 64 = omega arith in
      let next : (other + 1) / 64 ≡ number / 64 = omega arith in
      let place : (other + 1) % 64 ≡ other % 64 + 1 = omega arith in
      bit_flag-set_same before (number / 64) word other at_word here
      ∙ above (other % 64) (omega arith) (omega arith) ∙ rw (next, place) refl

  pub AreFallen-first : AreFallen before (set before (number / 64) word) number (number / 64 + 1)
  AreFallen-first =
      let index : (64 * (number / 64 + 1) - 1) / 64 ≡ number / 64 = omega arith in
      let place : (64 * (number / 64 + 1) - 1) % 64 ≡ 63 = omega arith in
      record {
        are = AreWords-set before (number / 64) word were (omega arith) fits;
        below = closed_under;
        fallen = closed_over;
        last =
            bit_flag-set_same before (number / 64) word (64 * (number / 64 + 1) - 1) at_word index
            ∙ ap (bit_at word) place ∙ highest;
        kept = λ j past. get_or-set_other before (number / 64) j word 0 (omega arith);
      }

-- one word more has fallen, whose lowest bit is the highest one of the word below
module _ (before words : List ℕ) (number index top : ℕ) (some : 0 < index) (within : index < 4) (fits : top < 2 ^ 64)
    (after : number < 64 * index) (so_far : AreFallen before words number index)
    (below : (i : ℕ) → i < 63 → bit_at top i ≡ bit_at (get_or words (index - 1) 0) i)
    (highest : bit_at top 63 ≡ bit_at (get_or words index 0) 0) where
  abbrev pub both : List ℕ
  both = set (set words (index - 1) top) index (get_or words index 0 / 2)

  topped : AreWords (set words (index - 1) top)
  topped = AreWords-set words (index - 1) top so_far.are (omega arith) fits

  are_both : AreWords both
  are_both =
      AreWords-set (set words (index - 1) top) index (get_or words index 0 / 2) topped within
      (omega (arith, so_far.are.fit index))

  -- the bits of the word itself, of the word below, and of the others
  bit_here : (other : ℕ) → other / 64 ≡ index → bit_flag both other ≡ bit_at (get_or before index 0) (other % 64 + 1)
  bit_here other here =
      bit_flag-set_same (set words (index - 1) top) index (get_or words index 0 / 2) other (rw topped.four within) here
      ∙ halved (get_or words index 0) (other % 64)
      ∙ ap (λ n. bit_at n (other % 64 + 1)) (so_far.kept index (omega arith))

  bit_under : (other : ℕ) → other / 64 ≡ index - 1 → bit_flag both other ≡ bit_at top (other % 64)
  bit_under other here =
      bit_flag-set_other (set words (index - 1) top) index (get_or words index 0 / 2) other (omega arith)
      ∙ bit_flag-set_same words (index - 1) top other (rw so_far.are.four (omega arith)) here

  bit_there : (other : ℕ) → other / 64 ≢ index → other / 64 ≢ index - 1 → bit_flag both other ≡ bit_flag words other
  bit_there other there also =
      bit_flag-set_other (set words (index - 1) top) index (get_or words index 0 / 2) other there
      ∙ bit_flag-set_other words (index - 1) top other also

  under_same : (other : ℕ) → other / 64 ≡ index - 1 → other + 1 < 64 * index → bit_flag both other ≡ bit_flag words other
  under_same other here inside = bit_under other here ∙ below (other % 64) (omega arith) ∙ rw here refl

  fallen_below : (other : ℕ) → other + 1 < 64 * index → bit_flag both other ≡ bit_flag words other
  fallen_below other inside =
      elim (cases_eq (other / 64) (index - 1)) [
        | inl here ↦ under_same other here inside
        | inr there ↦ bit_there other (omega arith) there
      ]

  fallen_more : (other : ℕ) → number ≤ other → other + 1 < 64 * (index + 1)
      → bit_flag both other ≡ bit_flag before (other + 1)
  fallen_more other over inside =
      elim (cases_lt (other + 1) (64 * index)) [
        | inl less ↦ fallen_below other less ∙ so_far.fallen other over less
        | inr from ↦
            let next : (other + 1) / 64 ≡ index = omega arith in
            elim (cases_eq (other + 1) (64 * index)) [
              | inl last ↦
                  let here : other / 64 ≡ index - 1 = omega arith in
                  let place : other % 64 ≡ 63 = omega arith in
                  let first : (other + 1) % 64 ≡ 0 = omega arith in
                  bit_under other here
                  ∙ rw (place, next, first) (highest ∙ ap (λ n. bit_at n 0) (so_far.kept index (omega arith)))
              | inr past ↦
                  let here : other / 64 ≡ index = omega arith in
                  let place : (other + 1) % 64 ≡ other % 64 + 1 = omega arith in
                  bit_here other here ∙ rw (next, place) refl
            ]
      ]

  last_clear : bit_flag both (64 * (index + 1) - 1) ≡ 0
  last_clear =
      let here : (64 * (index + 1) - 1) / 64 ≡ index = omega arith in
      let place : (64 * (index + 1) - 1) % 64 ≡ 63 = omega arith in
      bit_flag-set_same (set words (index - 1) top) index (get_or words index 0 / 2) (64 * (index + 1) - 1)
      (rw topped.four within) here
      ∙ ap (bit_at (get_or words index 0 / 2)) place
      ∙ halved (get_or words index 0) 63
      ∙ bit_at_above (get_or words index 0) 64 64 (so_far.are.fit index) (omega arith)

  pub AreFallen-more : AreFallen before both number (index + 1)
  AreFallen-more = record {
    are = are_both;
    below = λ other under. fallen_below other (omega arith) ∙ so_far.below other under;
    fallen = fallen_more;
    last = last_clear;
    kept = λ j past.
        get_or-set_other (set words (index - 1) top) index j (get_or words index 0 / 2) 0 (omega arith)
        ∙ get_or-set_other words (index - 1) j top 0 (omega arith) ∙ so_far.kept j (omega arith);
  }

-- the flags once a place was closed
module _ (flags : List Bool) (number : ℕ) (within : number < length flags) where
  pub length-closed_flags : length (closed_flags number flags) ≡ length flags
  length-closed_flags = omega (arith, length-append (remove flags number) (false ∷ []), length-remove flags number within)

  pub get_or-closed_below : (i : ℕ) → i < number → get_or (closed_flags number flags) i false ≡ get_or flags i false
  get_or-closed_below i below =
      get_or_append_left (remove flags number) (false ∷ []) false i (omega (arith, length-remove flags number within))
      ∙ get_or-remove_below flags number false i below within

  pub get_or-closed_above : (i : ℕ) → number ≤ i → i + 1 < length flags
      → get_or (closed_flags number flags) i false ≡ get_or flags (i + 1) false
  get_or-closed_above i above few =
      get_or_append_left (remove flags number) (false ∷ []) false i (omega (arith, length-remove flags number within))
      ∙ get_or-remove_above flags number false i above within

  pub get_or-closed_last : (i : ℕ) → i + 1 ≡ length flags → get_or (closed_flags number flags) i false ≡ false
  get_or-closed_last i last =
      get_or_push (remove flags number) false false i (omega (arith, length-remove flags number within))

module _ (before words : List ℕ) (number : ℕ) (within : number < 256) (are : AreWords before)
    (all : AreFallen before words number 4) where
  long : length (flags_of before) ≡ 256
  long = flags_long before are

  read : (i : ℕ) → i < 256 → nat_eq (bit_flag before i) 1 ≡ get_or (flags_of before) i false
  read i few = sym (get_or-flags_of before i (rw are.four few))

  closed_flag : (i : ℕ) → i < 256 → nat_eq (bit_flag words i) 1 ≡ get_or (closed_flags number (flags_of before)) i false
  closed_flag i few =
      let wide : length (flags_of before) ≡ 256 = long in
      let inside : number < length (flags_of before) = omega arith in
      elim (cases_lt i number) [
        | inl below ↦
            ap (λ bit. nat_eq bit 1) (all.below i below) ∙ read i few
            ∙ sym (get_or-closed_below (flags_of before) number inside i below)
        | inr from ↦
            elim (cases_eq i 255) [
              | inl last ↦
                  rw last
                  (ap (λ bit. nat_eq bit 1) all.last
                  ∙ sym (get_or-closed_last (flags_of before) number inside 255 (omega arith)))
              | inr above ↦
                  ap (λ bit. nat_eq bit 1) (all.fallen i from (omega arith)) ∙ read (i + 1) (omega arith)
                  ∙ sym (get_or-closed_above (flags_of before) number inside i from (omega arith))
            ]
      ]

  pub words-closed : flags_of words ≡ closed_flags number (flags_of before)
  words-closed =
      flags_from_bits words (closed_flags number (flags_of before))
      (length-closed_flags (flags_of before) number (rw long within) ∙ long ∙ rw all.are.four refl)
      (λ i few. closed_flag i (rw all.are.four at few))
