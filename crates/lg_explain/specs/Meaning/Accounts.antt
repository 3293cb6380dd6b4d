-- The accounts of episodes, and which of them are asked for.
use Rattle.std.specs.Prelude.{if◌then◌else◌, List, [], ◌∷◌, filter, map, reverse}
use Rattle.lg_explain.specs.Meaning.Episodes.{is_known_at, is_told_by, notes_of}
use Rattle.lg_accounts.specs.Meaning.Values.{AccountValue}
use Rattle.lg_explain.specs.Meaning.Told.{EntryTold}
use Rattle.lg_explain.specs.declared.question.MemberQuestion.{MemberQuestion}

-- the account of an episode
abbrev pub account_of : List EntryTold → AccountValue
account_of episode = record { notes = notes_of episode; is_known = is_known_at episode }

-- the first of some accounts alone
abbrev pub first_only : List AccountValue → List AccountValue
first_only [] = []
first_only (account ∷ accounts) = account ∷ []

-- Of the episodes, the latest first, those are told whose first verdict came at the moment that is asked for or before:
-- each in order, or the last alone.
abbrev pub accounts_told : MemberQuestion → List (List EntryTold) → List AccountValue
accounts_told question runs =
    let told = map account_of (filter (is_told_by question.at) runs) in
    if question.all then reverse told else first_only told
