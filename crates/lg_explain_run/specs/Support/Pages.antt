-- Pages, as the program holds them before they are written.
use Rattle.std.specs.Prelude.{◌≡◌, false, List, []}
use Rattle.lg_accounts.specs.declared.account.Account.{Account}
use Rattle.lg_accounts.specs.Meaning.Pages.{accounts_page}
use Rattle.lg_explain.specs.declared.question.MemberQuestion.{MemberQuestion}
use Rattle.lg_explain.specs.Meaning.Folders.{ExplainsAll}
use Rattle.lg_explain_run.specs.declared.paging.Page.{Page}
use Rattle.lg_explain_run.specs.Meaning.Running.{accounts_status}

-- The page of the accounts of some files, in the order of their numbers, and the status of these.
pub record IsPage (question : MemberQuestion) (page : Page) : Type 0 where
  pub accounts : List Account
  pub explains : ExplainsAll false [] [] question accounts
  pub text_is : page.text.items ≡ accounts_page question.name accounts
  pub status_is : page.status ≡ accounts_status accounts
