-- How a text of a file is quoted in a reason: cut, and in printable ASCII, so that a terminal takes it for nothing else
-- (this project's choice).
use Rattle.std.specs.Prelude.{ℕ, List, [], ◌++◌, codes, length, map, nat_lt, take, if◌then◌else◌}
use Rattle.lg_timing.specs.Meaning.Keys.{is_within}

-- the most bytes of a text that are shown
abbrev pub most_shown : ℕ
most_shown = 64

-- a byte: itself if it is printable ASCII, or else a question mark
abbrev pub shown_byte : ℕ → ℕ
shown_byte b = if is_within 32 126 b then b else 63

-- two dots, if not all bytes of a text are shown
abbrev pub shown_end : List ℕ → List ℕ
shown_end text = if nat_lt most_shown (length text) then codes ".." else []

-- a text in double quotes
abbrev pub quoted : List ℕ → List ℕ
quoted text = codes "\"" ++ (map shown_byte (take most_shown text) ++ (shown_end text ++ codes "\""))
