-- Rows of the queue by their indices.
use Rattle.std.specs.Prelude.{◌≡◌, ℕ, List, Option, Some, slice_get, filter_map}
use Rattle.std.specs.List.{AllByRecursion}
use Rattle.lg_rules.specs.declared.claim.Claim.{Claim}
use Rattle.lg_rules.specs.declared.version.Version.{Version}
use Rattle.lg_gossip.specs.declared.choice.TakenRow.{TakenRow}
use Rattle.lg_gossip.specs.declared.queued.Queued.{Queued}
use Rattle.lg_gossip.specs.Meaning.Queue.{rows_taken}

-- there is a row at this index, and it was sent this often
pub record IsRowOf (rows : List Queued) (taken : TakenRow) : Type 0 where
  pub row : Queued
  pub stands : slice_get rows taken.index ≡ Some row
  pub sends : taken.sends ≡ row.sends

-- the rows at these indices
abbrev pub rows_at : List Queued → List TakenRow → List Queued
rows_at rows taken = filter_map (λ t. slice_get rows t.index) taken

-- these are the places of the rows that a packet of a version takes of a queue
pub record HasTaken (v : Version) (buddy : Option Claim) (limit : ℕ) (rows : List Queued)
    (taken : List TakenRow) : Type 0 where
  pub places : AllByRecursion (IsRowOf rows) taken
  pub chosen : rows_at rows taken ≡ rows_taken v buddy limit rows
