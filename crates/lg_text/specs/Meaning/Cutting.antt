-- Cutting a text at the first of some bytes.
use Rattle.std.specs.Prelude.{ℕ, ◌+◌, ◌==◌, Bool, List, drop, Option, position}
use Rattle.std.specs.List.{before_first}
use Rattle.std.specs.Option.{option_map}

-- the byte `:`, behind which a port stands
abbrev pub colon : ℕ
colon = 58

-- whether a byte is this one
abbrev pub is_byte : ℕ → ℕ → Bool
is_byte byte b = b == byte

-- what stands before the first such byte; all of a text that has none
unfoldable pub before : ℕ → List ℕ → List ℕ
before byte text = before_first (is_byte byte) text

-- what stands behind the first such byte, if there is one
unfoldable pub behind : ℕ → List ℕ → Option (List ℕ)
behind byte text = option_map (λ at. drop (at + 1) text) (position (is_byte byte) text)
