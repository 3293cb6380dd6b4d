-- The index of a key among rows whose keys rise.
use Rattle.std.specs.Prelude.{ℕ, ◌≡◌, ◌<◌, ◌≤◌, List, length}
use Rattle.std.specs.Prelude.{insert, slice_index_or, slice_set, Some, None}
use Rattle.std.specs.declared.cmp.Ordering.{Ordering}
use Rattle.lg_rules.specs.Meaning.Rows.{put_row, row_at}

module _ {K : Type 0} (cmp : K → K → Ordering) where
  -- The row with a key is at this index: writing there replaces it.
  pub record HasRow {R : Type 0} (key : R → K) (n : K) (rows : List R) (at : ℕ) : Type 0 where
    pub within : at < length rows
    pub named : (d : R) → key (slice_index_or rows at d) ≡ n
    pub found : (d : R) → row_at cmp key n rows ≡ Some (slice_index_or rows at d)
    pub set : (r : R) → key r ≡ n → slice_set rows at r ≡ put_row cmp key r rows

  -- No row has the key: a row that has it would be inserted at this index.
  pub record LacksRow {R : Type 0} (key : R → K) (n : K) (rows : List R) (at : ℕ) : Type 0 where
    pub within : at ≤ length rows
    pub missing : row_at cmp key n rows ≡ None
    pub insert : (r : R) → key r ≡ n → insert rows at r ≡ put_row cmp key r rows
