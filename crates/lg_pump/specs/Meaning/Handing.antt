-- In which pieces the thread of a pump writes a text.
use Rattle.std.specs.Prelude.{◌≡◌, ◌≢◌, ℕ, ◌-◌, ◌<◌, ◌≤◌, min, List, length, slice_index}

-- the most bytes that are written by one call
abbrev pub most_piece : ℕ
most_piece = 4096

-- the byte that ends a line
abbrev pub line_feed : ℕ
line_feed = 10

-- The first piece of a text has so many bytes: no more than are written by one call, and some if the text has some. It
-- ends with a line if any of its bytes ends one. Of the bytes behind it that a call could have taken too, none ends a
-- line. A piece that ends no line has as many bytes as a call may write, or all of the text.
pub record IsPiece (text : List ℕ) (count : ℕ) : Type 0 where
  pub within : count ≤ length text
  pub few : count ≤ most_piece
  pub some : 0 < length text → 0 < count
  pub whole : (at : ℕ) → at < count → slice_index text at ≡ line_feed → slice_index text (count - 1) ≡ line_feed
  pub long : (at : ℕ) → count ≤ at → at < length text → at < most_piece → slice_index text at ≢ line_feed
  pub full : slice_index text (count - 1) ≢ line_feed → count ≡ min (length text) most_piece
