-- The number that a text spells, and the port.
use Rattle.std.specs.Prelude.{ℕ, Bool, ◌&&◌, nat_le, List, length, if◌then◌else◌}
use Rattle.std.specs.Prelude.{Option, Some, None}
use Rattle.std.specs.Char.{is_ascii_digit}
use Rattle.std.specs.List.{list_all}
use Rattle.std.specs.Str.Parse.{digits_value}
use Rattle.lg_text.specs.Meaning.Ranges.{most_digits, least_port, most_port}
use Rattle.lg_text.specs.Meaning.Steps.{◌>>=◌}

-- whether a text is a number: 1 to 16 decimal digits; leading zeros count as digits
abbrev pub is_number : List ℕ → Bool
is_number text = nat_le 1 (length text) && (nat_le (length text) most_digits && list_all is_ascii_digit text)

-- the value of a text, if the text is a number
abbrev pub number_of : List ℕ → Option ℕ
number_of text = if is_number text then Some (digits_value 10 text) else None

-- a number, if it is at least `least` and at most `most`
abbrev pub number_among : ℕ → ℕ → ℕ → Option ℕ
number_among least most number = if nat_le least number && nat_le number most then Some number else None

-- the number that a text spells, if it is at least `least` and at most `most`
abbrev pub number_within : ℕ → ℕ → List ℕ → Option ℕ
number_within least most text = do
  number ← number_of text
  number_among least most number

-- a number, if it is that of a port
abbrev pub port_among : ℕ → Option ℕ
port_among number = number_among least_port most_port number

-- the port that a text spells
abbrev pub port_of : List ℕ → Option ℕ
port_of text = do
  number ← number_of text
  port_among number
