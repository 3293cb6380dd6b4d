-- What the command `order` writes for its two lists, the names and the words.
use Rattle.std.specs.Prelude.{ℕ, ◌==◌, Bool, true, ◌&&◌, not, nat_le}
use Rattle.std.specs.Prelude.{List, [], ◌∷◌, ◌++◌, length, map}
use Rattle.std.specs.Prelude.{Option, Some, None, Result, Ok, Err, if◌then◌else◌}
use Rattle.std.specs.List.{flat_map, list_all, slice_split}
use Rattle.std.specs.Option.{is_some}
use Rattle.std.specs.Str.Parse.{digits_value}
use Rattle.lg_rules.specs.Meaning.Bounds.{most_others}
use Rattle.lg_rules.specs.Meaning.Name.{is_name}
use Rattle.lg_rules.specs.Meaning.Rows.{name_cmp, is_among}
use Rattle.lg_probe.specs.Meaning.Order.{picks}
use Rattle.lg_text.specs.Meaning.Lines.{newline}
use Rattle.lg_script.specs.Meaning.Values.{random_word_of}
use Rattle.lg_commands.specs.declared.order.BadList.{BadList}
use Rattle.lg_commands.specs.declared.order.BadList.TheVariants.{Names, Words}

-- the parts of a text between its commas; an empty text is one part
abbrev pub comma_parts : List ℕ → List (List ℕ)
comma_parts text = slice_split (λ b. b == 44) text

-- whether no name stands twice
abbrev pub are_different : List (List ℕ) → Bool
are_different [] = true
are_different (n ∷ ns) = not (is_among name_cmp n ns) && are_different ns

-- whether these are names, at most 255, and all different
abbrev pub are_names : List (List ℕ) → Bool
are_names parts = nat_le (length parts) most_others && (list_all is_name parts && are_different parts)

-- the names that a text lists, or None if they are bad
unfoldable pub names_of_text : List ℕ → Option (List (List ℕ))
names_of_text text = if are_names (comma_parts text) then Some (comma_parts text) else None

-- whether this is a word, as a script has them: 1 to 16 decimal digits, a number of at most 4,294,967,295
abbrev pub is_word : List ℕ → Bool
is_word part = is_some (random_word_of part)

-- the parts of a text that lists words; an empty text has none
abbrev pub word_parts : List ℕ → List (List ℕ)
word_parts text = if length text == 0 then [] else comma_parts text

-- the words that a text lists, or None if they are bad
unfoldable pub words_of_text : List ℕ → Option (List ℕ)
words_of_text text = if list_all is_word (word_parts text) then Some (map (digits_value 10) (word_parts text)) else None

-- some names, a line each
abbrev pub name_lines : List (List ℕ) → List ℕ
name_lines names = flat_map (λ name. name ++ newline) names

-- Whom the words choose one after another from the names, a line each. If a list is bad, it is told instead: the
-- names, if both are bad.
abbrev pub choices_of : Option (List (List ℕ)) → Option (List ℕ) → Result (List ℕ) BadList
choices_of None words = Err Names
choices_of (Some names) None = Err Words
choices_of (Some names) (Some words) = Ok (name_lines (picks names words))

-- what is written for a text of names and a text of words, or which of the two is bad
unfoldable pub order_text : List ℕ → List ℕ → Result (List ℕ) BadList
order_text names words = choices_of (names_of_text names) (words_of_text words)
