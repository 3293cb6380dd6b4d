-- The four numbers of an IPv4 address, as a text spells them (RFC 1123, section 2.1). No number has a leading zero,
-- which some read as a sign of octal digits (this project's choice).
use Rattle.std.specs.Prelude.{ℕ, ◌==◌, ◌&&◌, nat_lt, List, [], ◌∷◌, length, slice_index}
use Rattle.std.specs.Prelude.{Option, Some, None, if◌then◌else◌}
use Rattle.lg_text.specs.Meaning.Cutting.{before, behind}
use Rattle.lg_text.specs.Meaning.Numbers.{number_within}
use Rattle.lg_text.specs.Meaning.Ranges.{most_octet}
use Rattle.lg_text.specs.Meaning.Steps.{◌>>=◌}

-- the byte `.`
abbrev pub full_stop : ℕ
full_stop = 46

-- one of the four numbers: 0 to 255, without leading zeros
abbrev pub octet_of : List ℕ → Option ℕ
octet_of text =
    if nat_lt 1 (length text) && (slice_index text 0 == 48) then None else number_within 0 most_octet text

-- an address, cut at its first three dots: a number stands before each, and the fourth number after the last
unfoldable pub octets_of : List ℕ → Option (List ℕ)
octets_of text = do
  second ← behind full_stop text
  third ← behind full_stop second
  first-number ← octet_of (before full_stop text)
  second-number ← octet_of (before full_stop second)
  third-number ← octet_of (before full_stop third)
  fourth ← behind full_stop third
  fourth-number ← octet_of fourth
  Some (first-number ∷ second-number ∷ third-number ∷ fourth-number ∷ [])
