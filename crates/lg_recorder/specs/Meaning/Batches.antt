-- Entries of a node, as a recorder is handed them, and what a file of a recording has of them.
use Rattle.std.specs.Prelude.{◌≡◌, ℕ, Bool, true, false, List, [], ◌∷◌, ◌++◌, length}
use Rattle.std.specs.List.{concat, enumerate_from}

-- Entries that follow one another: the number of the first one, the bytes with which a file begins that begins with
-- them, and the bytes of each.
pub record BatchValue : Type 0 where
  pub first : ℕ
  pub head : List ℕ
  pub chunks : List (List ℕ)

-- What a file has: the batch that it was begun with, and the bytes of its entries, which may be of several batches.
pub record FileRun : Type 0 where
  pub begun_with : BatchValue
  pub chunks : List (List ℕ)

-- the bytes of such a file: the head for its first entry, and its entries
abbrev pub run_text : FileRun → List ℕ
run_text run = run.begun_with.head ++ concat run.chunks

-- All entries of some batches, each with its number, in order. The batches are given with the latest first.
unfoldable pub entries_of : List BatchValue → List (ℕ × List ℕ)
entries_of [] = []
entries_of (b ∷ earlier) = entries_of earlier ++ enumerate_from b.first b.chunks

-- All entries that some files tell, each with the number that the head of its file gives it, in order. The files are
-- given with the latest first.
unfoldable pub told_by_runs : List FileRun → List (ℕ × List ℕ)
told_by_runs [] = []
told_by_runs (run ∷ earlier) = told_by_runs earlier ++ enumerate_from run.begun_with.first run.chunks

-- what is left of a list if only the elements at which the mask is true stay
unfoldable pub masked : {X : Type 0} → List Bool → List X → List X
masked (true ∷ mask) (x ∷ xs) = x ∷ masked mask xs
masked (false ∷ mask) (x ∷ xs) = masked mask xs
masked [] xs = []
masked (b ∷ mask) [] = []

-- these are the elements of that list, in its order, but for some of them that are left out
pub record LeavesOut {X : Type 0} (xs all : List X) : Type 0 where
  pub mask : List Bool
  pub each : length mask ≡ length all
  pub are : masked mask all ≡ xs

-- A source took from an origin, as the last thing that was done to it: before that, takings had made something else of
-- the origin, or nothing. Whether the batch was taken, and which batch the source is then, are those of that taking.
pub record TookLast {O : Type 0}
    (took : O → O → Type 0) (taking : O → Bool → BatchValue → O → Type 0)
    (before : O) (is_taken : Bool) (batch : BatchValue) (after : O)
    : Type 0 where
  pub between : O
  pub earlier : took before between
  pub last : taking between is_taken batch after
