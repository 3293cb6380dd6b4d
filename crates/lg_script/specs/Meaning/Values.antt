-- What one word of a line says: a moment, a random word, a seed. What number, what port and what name it spells is said
-- by `number_of`, `port_of` and `member_name_of` of `lg_text`, and what key it names by `key_named` of `lg_timing`.
use Rattle.std.specs.Prelude.{ℕ, ◌-◌, nat_le, List, []}
use Rattle.std.specs.Prelude.{◌∷◌, ◌++◌, length, replicate}
use Rattle.std.specs.Prelude.{Option, Some, None, if◌then◌else◌}
use Rattle.std.specs.Option.{option_map}
use Rattle.lg_rules.specs.declared.addr.Addr.{Addr}
use Rattle.lg_rules.specs.declared.addr.Ip.TheVariants.{V4}
use Rattle.lg_timing.specs.Meaning.Bounds.{most_seeds}
use Rattle.lg_timing.specs.declared.config.Seed.{Seed}
use Rattle.lg_text.specs.Meaning.Cutting.{before, behind, colon}
use Rattle.lg_text.specs.Meaning.Names.{member_name_of}
use Rattle.lg_text.specs.Meaning.Numbers.{number_within, port_of}
use Rattle.lg_text.specs.Meaning.Steps.{◌>>=◌}
use Rattle.lg_script.specs.Meaning.Bounds.{greatest_moment, random_words, greatest_random_word}

-- a moment, in milliseconds
abbrev pub moment_of : List ℕ → Option ℕ
moment_of word = number_within 0 greatest_moment word

-- a random word: 1 to 16 decimal digits, a number of at most 4,294,967,295
abbrev pub random_word_of : List ℕ → Option ℕ
random_word_of word = number_within 0 greatest_random_word word

-- the address of the member with a port: all members are at 127.0.0.1
abbrev pub local : ℕ → Addr
local port = record { ip = V4 (127 ∷ 0 ∷ 0 ∷ 1 ∷ []); port = port }

-- a seed, cut at the first colon: a name stands before it, and a port after it
abbrev pub seed_of : List ℕ → Option Seed
seed_of word = do
  name ← member_name_of (before colon word)
  rest ← behind colon word
  port ← port_of rest
  Some record { name = name; addr = local port }

-- the values of some words; None if one of them can't be read
abbrev pub each_of : {A : Type 0} → (List ℕ → Option A) → List (List ℕ) → Option (List A)
each_of read [] = Some []
each_of read (word ∷ words) = do
  value ← read word
  values ← each_of read words
  Some (value ∷ values)

-- the values of some words; None also if there are more than `most` words
abbrev pub at_most_of : {A : Type 0} → ℕ → (List ℕ → Option A) → List (List ℕ) → Option (List A)
at_most_of most read words = if nat_le (length words) most then each_of read words else None

-- the eight random words of a tick or a leave; those that are missing are 0
abbrev pub with_missing : List ℕ → List ℕ
with_missing numbers = numbers ++ replicate (random_words - length numbers) 0

abbrev pub random_words_of : List (List ℕ) → Option (List ℕ)
random_words_of words = option_map with_missing (at_most_of random_words random_word_of words)

-- the seeds that some words spell, at most sixteen
abbrev pub seeds_of : List (List ℕ) → Option (List Seed)
seeds_of words = at_most_of most_seeds seed_of words
