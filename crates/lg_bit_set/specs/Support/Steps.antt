-- Where the loops stand: a word whose lowest bits are cleared one by one, and words that are opened or closed.
use Rattle.std.specs.Prelude.{◌≡◌, ℕ, ◌+◌, ◌-◌, ◌*◌, ◌^◌, ◌<◌, ◌≤◌, List, drop, slice_index, count_ones, Some}
use Rattle.lg_bit_set.specs.Meaning.Flags.{numbers_of, nth_number}
use Rattle.lg_bit_set.specs.Support.Words.{AreWords, bit_flag, word_flags}

-- A word's lowest bits were cleared, so many of them.
pub record IsLeftOver (word cleared rest : ℕ) : Type 0 where
  pub numbers : numbers_of (word_flags 64 rest) ≡ drop cleared (numbers_of (word_flags 64 word))
  pub count : count_ones rest + cleared ≡ count_ones word
  pub fits : rest < 2 ^ 64

-- Of a word with so many set bits below the one that is looked for, some more places were passed by. Where this one is
-- in the rest says where it is in the word.
pub record IsOnTheWay (bits below passed rest left now : ℕ) : Type 0 where
  pub further : passed ≤ now
  pub place : (n : ℕ) → nth_number (word_flags 64 rest) left ≡ Some n
      → nth_number (word_flags 64 bits) below ≡ Some (n + (now - passed))

-- The words from an index on have risen by one bit, and those below are as they were.
pub record AreRisen (before words : List ℕ) (index : ℕ) : Type 0 where
  pub are : AreWords words
  pub kept : (j : ℕ) → j < index → slice_index words j ≡ slice_index before j
  pub risen : (number : ℕ) → 64 * index ≤ number + 1 → number + 1 < 256
      → bit_flag words (number + 1) ≡ bit_flag before number

-- A number's place was opened.
pub record AreOpened (before words : List ℕ) (number : ℕ) : Type 0 where
  pub are : AreWords words
  pub below : (other : ℕ) → other < number → bit_flag words other ≡ bit_flag before other
  pub here : bit_flag words number ≡ 0
  pub above : (other : ℕ) → number ≤ other → other + 1 < 256 → bit_flag words (other + 1) ≡ bit_flag before other

-- A number's place was closed in the words below an index, and the others are as they were.
pub record AreFallen (before words : List ℕ) (number index : ℕ) : Type 0 where
  pub are : AreWords words
  pub below : (other : ℕ) → other < number → bit_flag words other ≡ bit_flag before other
  pub fallen : (other : ℕ) → number ≤ other → other + 1 < 64 * index
      → bit_flag words other ≡ bit_flag before (other + 1)
  pub last : bit_flag words (64 * index - 1) ≡ 0
  pub kept : (j : ℕ) → index ≤ j → slice_index words j ≡ slice_index before j
