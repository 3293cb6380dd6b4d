-- How a command line is told about a member by a page in a file: what is written into it, what is told of faults, and
-- the exit status.
use Rattle.std.specs.Prelude.{◌≡◌, ◌⊎◌, ℕ, Bool, true, false, List, [], ◌∷◌, Result, Ok, Err, codes}
use Rattle.std.specs.declared.io.ErrorKind.{ErrorKind}
use Rattle.lg_text.specs.Meaning.Reporting.{Reported, Reports}
use Rattle.lg_accounts.specs.declared.account.Account.{Account}
use Rattle.lg_accounts.specs.Meaning.Pages.{accounts_page}
use Rattle.lg_explain.specs.declared.question.MemberQuestion.{MemberQuestion}
use Rattle.lg_explain.specs.Meaning.Folders.{ExplainsAll}
use Rattle.lg_replay.specs.declared.fault.FolderFault.{FolderFault}
use Rattle.lg_replay.specs.declared.fault.FolderFault.TheVariants.{Unlisted, NoFile, Unread, TooLarge, Memory, Write}
use Rattle.lg_replay_run.specs.Meaning.Running.{TellsFolderFault}
use Rattle.lg_explain_run.specs.Meaning.Files.{PageWrite}
use Rattle.lg_explain_run.specs.Meaning.Files.PageWrite.{Wrote}
use Rattle.lg_explain_run.specs.Meaning.Running.{accounts_status}
use Rattle.lg_explain_run.specs.Meaning.Words.{write_reason}

-- It is told in two lines that a file couldn't be written. If memory for the second is refused, there is none.
pub record TellsUnwritten (reported reports : Reported) (path : List ℕ) (kind : ErrorKind) (status : ℕ) : Type 0 where
  pub second : List ℕ
  pub reason : (second ≡ []) ⊎ (second ≡ write_reason path kind)
  pub between : Reported
  pub first_taken : Reports reported between (codes "lg: write\n")
  pub second_taken : Reports between reports second
  pub is : status ≡ 1

-- What is told of a text that was written into a file, and the exit status. If all of it was written, nothing is told,
-- and the status is the due one.
abbrev pub TellsWritten :
    (reported reports : Reported) (path : List ℕ) → Result (Unit {0}) ErrorKind → (due status : ℕ) → Type 0
TellsWritten reported reports path (Ok done) due status = (reports ≡ reported) × (status ≡ due)
TellsWritten reported reports path (Err kind) due status = TellsUnwritten reported reports path kind status

-- A text was written into the file at a path, and nothing else, and how that went is told.
pub record WritesFile
    (tells : Bool) (past after : List PageWrite) (reported reports : Reported) (path text : List ℕ) (due status : ℕ)
    : Type 0 where
  pub done : Result (Unit {0}) ErrorKind
  pub wrote : tells ≡ true → after ≡ Wrote path text done ∷ past
  pub told : TellsWritten reported reports path done due status

-- The page of the accounts of some files, in the order of their numbers, was written. No contract can say what a folder
-- has.
pub record WritesPage
    (tells : Bool) (past after : List PageWrite) (reported reports : Reported) (question : MemberQuestion)
    (path : List ℕ) (status : ℕ)
    : Type 0 where
  pub accounts : List Account
  pub explains : ExplainsAll false [] [] question accounts
  pub writes : WritesFile tells past after reported reports path (accounts_page question.name accounts)
      (accounts_status accounts) status

-- a fault by which there are no accounts, or no text of them: none of writing
abbrev pub IsOfReading : FolderFault → Type 0
IsOfReading (Unlisted kind) = Unit {0}
IsOfReading NoFile = Unit {0}
IsOfReading (Unread number kind) = Unit {0}
IsOfReading (TooLarge number) = Unit {0}
IsOfReading Memory = Unit {0}
IsOfReading (Write fault) = ⊥

-- There is no page, and nothing was written. It is told why.
pub record LacksPage
    (past after : List PageWrite) (reported reports : Reported) (folder : List ℕ) (status : ℕ) : Type 0 where
  pub fault : FolderFault
  pub of_reading : IsOfReading fault
  pub unwritten : after ≡ past
  pub told : TellsFolderFault reported reports folder fault status

-- What the recording in a folder tells of a member is written into the file at a path as a page, whatever the folder
-- has, and how that went is told.
abbrev pub ExplainsPage :
    (tells : Bool) (past after : List PageWrite) (reported reports : Reported) (folder : List ℕ)
    (question : MemberQuestion) (path : List ℕ) (status : ℕ) → Type 0
ExplainsPage tells past after reported reports folder question path status =
    WritesPage tells past after reported reports question path status
    ⊎ LacksPage past after reported reports folder status
