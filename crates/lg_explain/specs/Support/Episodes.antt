-- What is kept of the episodes is what the definitions say of the entries before.
use Rattle.std.specs.Prelude.{◌≡◌, List, [], ◌∷◌, map}
use Rattle.lg_accounts.specs.Meaning.Values.{account_value, note_value}
use Rattle.lg_explain.specs.Meaning.Accounts.{accounts_told}
use Rattle.lg_explain.specs.Meaning.Episodes.{episodes, earliest_verdict, is_known_at, notes_of}
use Rattle.lg_explain.specs.Meaning.Told.{EntryTold}
use Rattle.lg_explain.specs.declared.question.MemberQuestion.{MemberQuestion}
use Rattle.lg_explain.specs.declared.gathered.Gathered.{Gathered}
use Rattle.lg_explain.specs.declared.gathered.Told.{Told}

-- what the program's type holds
abbrev pub told_value : Told → EntryTold
told_value told = record {
  begins = told.begins;
  is_verdict = told.is_verdict;
  is_known = told.is_known;
  note = note_value told.note;
}

-- The running episode is this one, and the accounts are those of these others.
pub record HasEpisode
    (s : Gathered) (question : MemberQuestion) (episode : List EntryTold) (runs : List (List EntryTold))
    : Type 0 where
  pub notes : map note_value s.notes.items ≡ notes_of episode
  pub first : s.first ≡ earliest_verdict episode
  pub known : s.is_known ≡ is_known_at episode
  pub accounts : map account_value s.accounts.items ≡ accounts_told question runs

-- the latest episode, and the others
abbrev pub latest_run : List (List EntryTold) → List EntryTold
latest_run [] = []
latest_run (episode ∷ runs) = episode

abbrev pub earlier_runs : List (List EntryTold) → List (List EntryTold)
earlier_runs [] = []
earlier_runs (episode ∷ runs) = runs

abbrev pub HasGathered : Gathered → MemberQuestion → List EntryTold → Type 0
HasGathered s question told = HasEpisode s question (latest_run (episodes told)) (earlier_runs (episodes told))
