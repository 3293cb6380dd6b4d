-- What the recording of a node tells of a member while the node records.
use Rattle.std.specs.Prelude.{◌≡◌, ℕ, false, List, []}
use Rattle.lg_timing.specs.declared.moment.TheConstants.{MAX_MOMENT}
use Rattle.lg_accounts.specs.declared.account.Account.{Account}
use Rattle.lg_explain.specs.declared.question.MemberQuestion.{MemberQuestion}
use Rattle.lg_explain.specs.Meaning.Folders.{ExplainsAll}
use Rattle.lg_explain_run.specs.Meaning.Running.{written_accounts}
use Rattle.lg_explain_run.specs.declared.form.AccountForm.TheVariants.{Json}

-- the latest account of a member, however late it is
abbrev pub latest_question : List ℕ → MemberQuestion
latest_question name = record { name = name; at = MAX_MOMENT; all = false }

-- The text is the JSON of the latest account of a member by some files, in the order of their numbers. No contract can
-- say which files a folder has, nor which of them are the newest.
pub record TellsNewest (name text : List ℕ) : Type 0 where
  pub accounts : List Account
  pub explains : ExplainsAll false [] [] (latest_question name) accounts
  pub is : text ≡ written_accounts Json name accounts
