-- What a recorder has written so far, by the batches that it was handed and by what it did in its folder.
use Rattle.std.specs.Prelude.{◌≡◌, ℕ, ◌+◌, ◌-◌, ◌*◌, ◌/◌, ◌≤◌, Bool, false, ◌&&◌, nat_eq, nat_lt}
use Rattle.std.specs.Prelude.{List, [], ◌∷◌, ◌++◌, length, map, min, take}
use Rattle.std.specs.Prelude.{Option, Some, None, Contains}
use Rattle.lg_recorder.specs.declared.recorder.OpenFile.{OpenFile}
use Rattle.lg_recorder.specs.Meaning.Batches.{BatchValue, FileRun, run_text, entries_of, told_by_runs, LeavesOut}
use Rattle.lg_recorder.specs.Meaning.Folders.{FolderEvent, IsLeastDeleted, held_in, begun, deleted, deleted_behind}
use Rattle.lg_recorder.specs.Meaning.Folders.{listed, settled_texts}

-- How many bytes a recording may take whose key record_mb is this: 1,000,000 for each.
abbrev pub record_limit : ℕ → ℕ
record_limit record_mb = 1000000 * record_mb

-- The size of a file in bytes: an eighth of what the recording may take, but at most 64,000,000.
abbrev pub file_size : ℕ → ℕ
file_size record_mb = min (record_limit record_mb / 8) 64000000

-- Each file begins with the head of a batch that was handed over: its first entry has the number that the head says.
abbrev pub AllBegunWith : List BatchValue → List FileRun → Type 0
AllBegunWith batches [] = Unit {0}
AllBegunWith batches (run ∷ runs) = Contains batches run.begun_with × AllBegunWith batches runs

-- The open file, if there is one, is the latest. The number that is due is that of the entry behind its last one, and
-- so many bytes are left until it has its size.
abbrev pub OpenIsLatest : ℕ → Bool → Option OpenFile → List FileRun → Type 0
OpenIsLatest size is_fresh None runs = Unit {0}
OpenIsLatest size is_fresh (Some file) [] = ⊥
OpenIsLatest size is_fresh (Some file) (run ∷ runs) =
    (is_fresh ≡ false)
    × (file.due ≡ run.begun_with.first + length run.chunks)
    × (file.left ≡ size - length (run_text run))

-- What a recorder has written, of batches that were handed to it, the latest first: the bytes of each file are the head
-- of a batch and a run of entries that follow one another, and the first of these has the number that the head says.
-- All files together, the oldest first, tell the entries of the batches in order, but for those that were lost.
pub record Holds
    (size : ℕ) (batches : List BatchValue) (past : List FolderEvent) (file : Option OpenFile)
    : Type 0 where
  pub runs : List FileRun
  pub are : (held_in past).texts ≡ map run_text runs
  pub part : LeavesOut (told_by_runs runs) (entries_of batches)
  pub heads : AllBegunWith batches runs
  pub goes_on : OpenIsLatest size (held_in past).is_fresh file runs

-- the latest file has these bytes more, and nothing else changed in what the files have
abbrev pub LatestGrows : List FolderEvent → List FolderEvent → List ℕ → Type 0
LatestGrows past past' bytes =
    (text : List ℕ) (texts : List (List ℕ))
    → held_in past ≡ settled_texts (text ∷ texts)
    → held_in past' ≡ settled_texts ((text ++ bytes) ∷ texts)

-- no file was begun, none was deleted, and the files weren't listed
pub record NoFileChanged (past past' : List FolderEvent) : Type 0 where
  pub begun_same : begun past' ≡ begun past
  pub deleted_same : deleted past' ≡ deleted past
  pub listed_same : listed past' ≡ listed past

-- The files were listed, and of these as many were deleted, the oldest first, as have to go so that the others have at
-- most so many bytes.
pub record MakesRoom (room : ℕ) (past past' : List FolderEvent) : Type 0 where
  pub count : ℕ
  pub least : IsLeastDeleted room (listed past') count
  pub gone : deleted past' ≡ deleted_behind (take count (listed past')) (deleted past)

-- There was room for it, and a file was begun. Its number is at least this.
pub record MakesFile (room next : ℕ) (past past' : List FolderEvent) : Type 0 where
  pub makes_room : MakesRoom room past past'
  pub number : ℕ
  pub is_begun : begun past' ≡ number ∷ begun past
  pub later : next ≤ number

-- whether a batch whose first entry has this number goes to the open file: it hasn't reached its size, and this is due
abbrev pub takes_batch : Option OpenFile → ℕ → Bool
takes_batch None first = false
takes_batch (Some file) first = nat_lt 0 file.left && nat_eq file.due first

-- what a recorder has written, of these batches and perhaps more that were handed to it after them
pub record HoldsMore
    (size : ℕ) (batches : List BatchValue) (past : List FolderEvent) (file : Option OpenFile)
    : Type 0 where
  pub more : List BatchValue
  pub holds : Holds size (more ++ batches) past file

-- the same, where the latest of the batches is this one
pub record HoldsLast
    (size : ℕ) (batches : List BatchValue) (last : BatchValue) (past : List FolderEvent) (file : Option OpenFile)
    : Type 0 where
  pub more : List BatchValue
  pub holds : Holds size (last ∷ more ++ batches) past file
