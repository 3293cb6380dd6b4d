-- The keys that a text spells, or what is wrong with it (this project's choice).
use Rattle.std.specs.Prelude.{ℕ, List, [], ◌∷◌, nat_eq, Option, Some, None, Result, Ok, Err, if◌then◌else◌}
use Rattle.std.specs.Cmp.Lexicographic.{pointwise}
use Rattle.std.specs.Result.{result_ok}
use Rattle.hex.specs.Hex.{decode_sized}
use Rattle.lg_text.specs.Meaning.Lines.{lines_of}
use Rattle.lg_seal.specs.declared.fault.KeyFault.{KeyFault}
use Rattle.lg_seal.specs.declared.fault.KeyFault.TheVariants.{NoKey, BadLine, TooManyLines, SameKeys}
use Rattle.lg_seal.specs.declared.key.Keys.{Keys}

-- the bytes of a key
abbrev pub key_bytes : ℕ
key_bytes = 32

-- The key that a line spells, if it is two hex digits for each byte of a key, of either case, and nothing else.
unfoldable pub key_of : List ℕ → Option (List ℕ)
key_of line = result_ok (decode_sized line key_bytes)

-- what follows from the key of the line with this number, if that line spells one
infixl 10 ◌>>=◌
abbrev pub ◌>>=◌ : {A : Type 0} → Result (List ℕ) KeyFault → (List ℕ → Result A KeyFault) → Result A KeyFault
Ok key >>= f = f key
Err fault >>= f = Err fault

abbrev pub or_bad_line : ℕ → Option (List ℕ) → Result (List ℕ) KeyFault
or_bad_line number (Some key) = Ok key
or_bad_line number None = Err (BadLine number)

-- Two keys, unless a third line begins or they are the same.
abbrev pub both_keys : List ℕ → List ℕ → List (List ℕ) → Result Keys KeyFault
both_keys first second [] =
    if pointwise nat_eq first second then Err SameKeys else Ok (record { first = first; second = Some second })
both_keys first second (line ∷ lines) = Err TooManyLines

-- The keys, if the first line spells `first` and these lines follow it.
abbrev pub keys_after : List ℕ → List (List ℕ) → Result Keys KeyFault
keys_after first [] = Ok (record { first = first; second = None })
keys_after first (line ∷ lines) = do
  second ← or_bad_line 2 (key_of line)
  both_keys first second lines

abbrev pub keys_of_lines : List (List ℕ) → Result Keys KeyFault
keys_of_lines [] = Err NoKey
keys_of_lines (line ∷ lines) = do
  first ← or_bad_line 1 (key_of line)
  keys_after first lines

-- the keys of a text, one or two lines, or its first fault from the top
abbrev pub keys_of : List ℕ → Result Keys KeyFault
keys_of text = keys_of_lines (lines_of text)
