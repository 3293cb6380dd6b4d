-- How a command line is told about a member from the recording in a folder: what is written, what is told of faults,
-- and the exit status.
use Rattle.std.specs.Prelude.{◌≡◌, ℕ, false, true, List, [], ◌∷◌, Option, Result, Ok, Err, MatchResult}
use Rattle.std.specs.Io.KnownBytes.{Appends}
use Rattle.lg_text.specs.Meaning.Reporting.{Reported}
use Rattle.lg_text.specs.Meaning.Running.{AppendsFront}
use Rattle.lg_accounts.specs.declared.account.Account.{Account}
use Rattle.lg_accounts.specs.Meaning.Accounts.{accounts_text}
use Rattle.lg_accounts.specs.Meaning.Json.{accounts_json}
use Rattle.lg_explain.specs.declared.question.MemberQuestion.{MemberQuestion}
use Rattle.lg_explain.specs.Meaning.Folders.{ExplainsAll}
use Rattle.lg_replay.specs.declared.fault.FolderFault.{FolderFault}
use Rattle.lg_replay.specs.declared.fault.FolderFault.TheVariants.{Unlisted, NoFile, Unread, TooLarge, Memory, Write}
use Rattle.lg_replay_run.specs.Meaning.Running.{TellsFolderFault}
use Rattle.lg_explain_run.specs.declared.form.AccountForm.{AccountForm}
use Rattle.lg_explain_run.specs.declared.form.AccountForm.TheVariants.{Json, Lines, NumberedLines}

-- the text of a member's accounts, in a form of lines
abbrev pub written_accounts : AccountForm → (name : List ℕ) → List Account → List ℕ
written_accounts Lines name accounts = accounts_text name false accounts
written_accounts NumberedLines name accounts = accounts_text name true accounts
written_accounts Json name accounts = accounts_json name accounts

-- the exit status: 0 if there is an account, else 1
abbrev pub accounts_status : List Account → ℕ
accounts_status [] = 1
accounts_status (account ∷ accounts) = 0

-- The accounts of some files, in the order of their numbers, were written. No contract can say what a folder has.
pub record TellsAccounts
    (held holds : Option (List ℕ)) (question : MemberQuestion) (form : AccountForm) (status : ℕ) : Type 0 where
  pub accounts : List Account
  pub explains : ExplainsAll false [] [] question accounts
  pub wrote : Appends held holds (written_accounts form question.name accounts)
  pub is : status ≡ accounts_status accounts

-- the same, but only a beginning was written
pub record BeginsAccounts
    (held holds : Option (List ℕ)) (question : MemberQuestion) (form : AccountForm) : Type 0 where
  pub accounts : List Account
  pub explains : ExplainsAll false [] [] question accounts
  pub wrote : AppendsFront held holds (written_accounts form question.name accounts)

-- The accounts weren't written. Nothing was, unless it is the writing that failed.
abbrev pub LacksAccounts : (held holds : Option (List ℕ)) → MemberQuestion → AccountForm → FolderFault → Type 0
LacksAccounts held holds question form (Unlisted kind) = holds ≡ held
LacksAccounts held holds question form NoFile = holds ≡ held
LacksAccounts held holds question form (Unread number kind) = holds ≡ held
LacksAccounts held holds question form (TooLarge number) = holds ≡ held
LacksAccounts held holds question form Memory = holds ≡ held
LacksAccounts held holds question form (Write fault) = BeginsAccounts held holds question form

-- What is told of a fault, and the exit status. If there is none, nothing is told but what was written.
abbrev pub TellsExplained :
    (reported reports : Reported) (folder : List ℕ) → Result ℕ FolderFault → (status : ℕ) → Type 0
TellsExplained reported reports folder (Ok done) status = (reports ≡ reported) × (status ≡ done)
TellsExplained reported reports folder (Err fault) status = TellsFolderFault reported reports folder fault status

-- What the recording in a folder tells of a member is written, whatever the folder has, and how that went is told.
pub record ExplainsFolder
    (held holds : Option (List ℕ)) (reported reports : Reported) (folder : List ℕ) (question : MemberQuestion)
    (form : AccountForm) (status : ℕ)
    : Type 0 where
  pub explained : Result ℕ FolderFault
  pub did : MatchResult explained (TellsAccounts held holds question form) (LacksAccounts held holds question form)
  pub told : TellsExplained reported reports folder explained status
