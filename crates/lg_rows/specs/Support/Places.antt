-- Items in places: the places in use, in the order of the row.
use Rattle.std.specs.Prelude.{ℕ, ◌≡◌, ◌<◌, ◌≤◌, eqb, List, length, slice_get, slice_index, insert, remove, filter_map}
use Rattle.std.specs.List.{All, IsDistinct}
use Rattle.lg_rows.specs.declared.rows.TheConstants.{MAX_ROWS}

-- the items in some places
abbrev pub items_at : {X : Type 0} → List X → List ℕ → List X
items_at items places = filter_map (slice_get items) places

-- the places once the one at an index was moved to another index
abbrev pub moved : List ℕ → ℕ → ℕ → List ℕ
moved places from to = insert (remove places from) to (slice_index places from)

-- Each place has an item, and all places are there once. Those in use are no more than all, and these have 16 bits.
pub record AreRowPlaces {X : Type 0} (room count : ℕ) (places : List ℕ) (items : List X) : Type 0 where
  pub long : length places ≡ room
  pub full : length items ≡ room
  pub few : count ≤ room
  pub small : room ≤ MAX_ROWS
  pub within : All (λ place. place < room) places
  pub apart : IsDistinct eqb places
