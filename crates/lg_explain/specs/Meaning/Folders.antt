-- What the explanation of a folder promises: of which calls it made to read the files, and of the accounts.
use Rattle.std.specs.Prelude.{◌≡◌, ◌⊎◌, ℕ, ◌<◌, ◌≤◌, Bool, List, [], ◌∷◌, length, map, Ok, Err}
use Rattle.lg_replay.specs.Meaning.Files.{RecordingFile}
use Rattle.lg_replay.specs.Meaning.Folders.{FailsAtList, FilesCall, ListsFiles, ReadsFiles, most_file_bytes}
use Rattle.lg_replay.specs.Meaning.Folders.FilesCall.{Read}
use Rattle.lg_replay.specs.declared.fault.FolderFault.{FolderFault}
use Rattle.lg_replay.specs.declared.fault.FolderFault.TheVariants.{Unlisted, NoFile, Unread, TooLarge, Memory, Write}
use Rattle.lg_accounts.specs.declared.account.Account.{Account}
use Rattle.lg_accounts.specs.Meaning.Values.{account_value}
use Rattle.lg_explain.specs.Meaning.Explanations.{accounts_of}
use Rattle.lg_explain.specs.declared.question.MemberQuestion.{MemberQuestion}

-- the bytes of a file
abbrev pub file_bytes : RecordingFile → List ℕ
file_bytes file = file.bytes

-- Behind the list, all files were read in the order of their numbers, and nothing else was done. The accounts are those
-- of the definitions for them.
pub record ExplainsListed
    (tells : Bool) (before after : List FilesCall) (numbers : List ℕ) (question : MemberQuestion)
    (accounts : List Account)
    : Type 0 where
  pub files : List RecordingFile
  pub reads : ReadsFiles tells before after numbers files [] []
  pub are : map account_value accounts ≡ accounts_of question (map file_bytes files)

-- the same with the list that came before
pub record ExplainsAll
    (tells : Bool) (past after : List FilesCall) (question : MemberQuestion) (accounts : List Account)
    : Type 0 where
  pub numbers : List ℕ
  pub before : List FilesCall
  pub lists : ListsFiles tells past before numbers
  pub explains : ExplainsListed tells before after numbers question accounts

-- The files were listed, and then the fault came: the next file couldn't be read, or has too many bytes; or memory was
-- refused. One more call at most was made behind the files that were read.
abbrev pub FailsAtReading : Bool → (before after : List FilesCall) → List ℕ → FolderFault → Type 0
FailsAtReading tells before after numbers (Unlisted kind) = ⊥
FailsAtReading tells before after numbers NoFile = ⊥
FailsAtReading tells before after numbers (Unread number kind) =
    (files : List RecordingFile) × (others bytes : List ℕ)
    × ReadsFiles tells before after numbers files (number ∷ others) (Read number bytes (Err kind) ∷ [])
FailsAtReading tells before after numbers (TooLarge number) =
    (files : List RecordingFile) × (others bytes : List ℕ)
    × ReadsFiles tells before after numbers files (number ∷ others) (Read number bytes (Ok tt) ∷ [])
    × (most_file_bytes < length bytes)
FailsAtReading tells before after numbers Memory =
    (files : List RecordingFile) × (others : List ℕ) × (last : List FilesCall)
    × ReadsFiles tells before after numbers files others last
    × (length last ≤ 1)
FailsAtReading tells before after numbers (Write fault) = ⊥

-- the same with the list that came before
pub record FailsBehindListing (tells : Bool) (past after : List FilesCall) (fault : FolderFault) : Type 0 where
  pub numbers : List ℕ
  pub before : List FilesCall
  pub lists : ListsFiles tells past before numbers
  pub fails : FailsAtReading tells before after numbers fault

-- what a fault says
abbrev pub FailsToExplain : Bool → (past after : List FilesCall) → FolderFault → Type 0
FailsToExplain tells past after fault =
    FailsAtList tells past after fault ⊎ FailsBehindListing tells past after fault
