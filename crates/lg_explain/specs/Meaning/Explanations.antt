-- The accounts of a recording.
use Rattle.std.specs.Prelude.{ℕ, List}
use Rattle.lg_accounts.specs.Meaning.Values.{AccountValue}
use Rattle.lg_explain.specs.Meaning.Accounts.{accounts_told}
use Rattle.lg_explain.specs.Meaning.Episodes.{episodes}
use Rattle.lg_explain.specs.Meaning.Places.{recording_read}
use Rattle.lg_explain.specs.Meaning.Tellings.{all_told}
use Rattle.lg_explain.specs.declared.question.MemberQuestion.{MemberQuestion}

-- the accounts of a recording, by the bytes of its files in their order
unfoldable pub accounts_of : MemberQuestion → List (List ℕ) → List AccountValue
accounts_of question files =
    accounts_told question (episodes (all_told (recording_read question.name files).entries))
