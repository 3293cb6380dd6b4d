-- What a name is, and what is wrong with bytes that are no name (this project's choice).
use Rattle.std.specs.Prelude.{ℕ, Bool, ◌&&◌, ◌||◌, not, List, length}
use Rattle.std.specs.Prelude.{nat_le, nat_lt, ◌==◌, find, if◌then◌else◌}
use Rattle.std.specs.Prelude.{Option, Some, None, Result, Ok, Err}
use Rattle.std.specs.List.{list_all}
use Rattle.lg_rules.specs.declared.name.NameFault.{NameFault}
use Rattle.lg_rules.specs.declared.name.NameFault.TheVariants.{Empty, TooLong, BadByte}
use Rattle.lg_rules.specs.Meaning.Bounds.{most_name_bytes}

-- a letter, a digit, or one of . _ -
abbrev pub is_name_byte : ℕ → Bool
is_name_byte b =
    (nat_le 65 b && nat_le b 90)
    || ((nat_le 97 b && nat_le b 122) || ((nat_le 48 b && nat_le b 57) || (b == 46 || (b == 95 || b == 45))))

-- a name is 1 to 32 of these bytes
abbrev pub is_name : List ℕ → Bool
is_name text = nat_le 1 (length text) && (nat_le (length text) most_name_bytes && list_all is_name_byte text)

-- the first byte that may not stand in a name, if there is one
abbrev pub bad_byte : List ℕ → Option ℕ
bad_byte text = find (λ b. not (is_name_byte b)) text

abbrev pub unless_bad : Option ℕ → List ℕ → Result (List ℕ) NameFault
unless_bad None text = Ok text
unless_bad (Some b) text = Err (BadByte b)

-- the name that a text is, or its first fault: it has no bytes, or too many, or a bad one
abbrev pub name_of_text : List ℕ → Result (List ℕ) NameFault
name_of_text text =
    if length text == 0 then Err Empty
    else if nat_lt most_name_bytes (length text) then Err TooLong
    else unless_bad (bad_byte text) text
