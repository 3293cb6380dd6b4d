-- The parts of a recorder's step.
use Rattle.std.specs.Prelude.{◌≡◌, ℕ, ◌+◌, ◌-◌, ◌≤◌, List, ◌∷◌, length, take, Option, Some, None}
use Rattle.std.specs.List.{concat}
use Rattle.lg_recorder.specs.declared.recorder.OpenFile.{OpenFile}
use Rattle.lg_recorder.specs.Meaning.Batches.{BatchValue}
use Rattle.lg_recorder.specs.Meaning.Folders.{FolderEvent, begun, held_in, settled_texts}
use Rattle.lg_recorder.specs.Meaning.Holding.{LatestGrows, MakesRoom}

-- a file was begun with the head of a batch
pub record BeginsFile
    (size room next : ℕ) (batch : BatchValue) (past past' : List FolderEvent) (file : OpenFile)
    : Type 0 where
  pub makes_room : MakesRoom room past past'
  pub is_begun : begun past' ≡ file.number ∷ begun past
  pub later : next ≤ file.number
  pub holds : held_in past' ≡ settled_texts (batch.head ∷ (held_in past).texts)
  pub due : file.due ≡ batch.first
  pub left : file.left ≡ size - length batch.head

-- what is open behind a batch of which so many entries were appended to a file
abbrev pub OpenBehind : BatchValue → OpenFile → ℕ → Option OpenFile → Type 0
OpenBehind batch file count None = Unit {0}
OpenBehind batch file count (Some next) =
    (count ≡ length batch.chunks)
    × (next.due ≡ batch.first + length batch.chunks)
    × (next.left ≡ file.left - length (concat batch.chunks))

-- the first entries of a batch were appended to a file
pub record AppendsTo
    (batch : BatchValue) (past past' : List FolderEvent) (file : OpenFile) (next : Option OpenFile)
    : Type 0 where
  pub count : ℕ
  pub within : count ≤ length batch.chunks
  pub grown : LatestGrows past past' (concat (take count batch.chunks))
  pub behind : OpenBehind batch file count next
