-- What a ring keeps of all changes, and what it has behind a version.
use Rattle.std.specs.Prelude.{◌≡◌, ℕ, ◌<◌, ◌≤◌, max, List, [], ◌∷◌, ◌++◌, length, Some, None}
use Rattle.std.specs.VecDeque.{deque_capacity, deque_len}
use Rattle.lg_changes.specs.declared.behind.Behind.{Behind}
use Rattle.lg_changes.specs.declared.behind.Behind.TheVariants.{All, Missed}
use Rattle.lg_changes.specs.declared.change.Change.{Change}
use Rattle.lg_changes.specs.declared.ring.Changes.{Changes}
use Rattle.lg_changes.specs.Meaning.Changes.{changes_after, most_changes}

-- the greatest version of some changes, or 0
abbrev pub greatest_version : List Change → ℕ
greatest_version [] = 0
greatest_version (change ∷ changes) = max change.version (greatest_version changes)

-- A ring keeps the newest of all changes, and the greatest version of the others. There are others only if it is full.
-- Its room never changes.
pub record KeepsNewest (ring : Changes) (all : List Change) : Type 0 where
  pub others : List Change
  pub are : all ≡ others ++ ring.rows.items
  pub lost : ring.lost ≡ greatest_version others
  pub few : length ring.rows.items ≤ most_changes
  pub full : 0 < length others → length ring.rows.items ≡ most_changes
  pub room : deque_capacity ring.rows ≡ most_changes
  pub counted : deque_len ring.rows ≡ length ring.rows.items

-- What a ring that keeps the newest of all changes has behind a version: all of them, or one of them is no longer kept,
-- and it is a ring that keeps the newest of all changes.
abbrev pub HasBehind : Behind → ℕ → List Change → Type 0
HasBehind (All rows) version all = changes_after version all ≡ Some rows.items
HasBehind (Missed ring) version all = (changes_after version all ≡ None) × KeepsNewest ring all
