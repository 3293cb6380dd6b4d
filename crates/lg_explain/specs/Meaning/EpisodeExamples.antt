-- Worked rows: ends of rounds that count, episodes, and the accounts that are asked for.
use Rattle.std.specs.Prelude.{◌≡◌, ℕ, ◌+◌, Bool, true, false, List, [], ◌∷◌, Some, None, refl}
use Rattle.lg_accounts.specs.declared.step.NoteStep.{NoteStep}
use Rattle.lg_accounts.specs.declared.step.NoteStep.TheVariants.{TimeOver}
use Rattle.lg_accounts.specs.Meaning.Values.{AccountValue, NoteValue}
use Rattle.lg_explain.specs.Meaning.Accounts.{accounts_told}
use Rattle.lg_explain.specs.Meaning.Episodes.{earliest_verdict, episodes, notes_of}
use Rattle.lg_explain.specs.Meaning.Rounds.{recent_rounds}
use Rattle.lg_explain.specs.Meaning.Told.{EntryTold}
use Rattle.lg_explain.specs.declared.question.MemberQuestion.{MemberQuestion}
use Rattle.lg_explain.specs.declared.rounds.RoundEnd.{RoundEnd}

-- ---- ends of rounds

abbrev round_end : ℕ → Bool → RoundEnd
round_end moment is_suspecting = record { moment = moment; is_suspecting = is_suspecting }

abbrev some_ends : List RoundEnd
some_ends = round_end 61000 false ∷ round_end 60000 true ∷ round_end 1000 true ∷ round_end 999 false ∷ []

-- an end counts for less than a minute: at 61,000 the one at 1000 doesn't any more
within_a_minute : recent_rounds 61000 some_ends ≡ record { ended = 2; suspected = 1 }
within_a_minute = refl

-- and at 60,999 it does
just_within : recent_rounds 60999 some_ends ≡ record { ended = 3; suspected = 2 }
just_within = refl

-- ---- episodes

abbrev some_note : ℕ → ℕ → List NoteStep → NoteValue
some_note entry moment steps =
    record { entry = entry; moment = moment; wall_ms = 1000 + moment; teller = None; steps = steps }

abbrev some_entry : ℕ → ℕ → (begins is_verdict is_known : Bool) → List NoteStep → EntryTold
some_entry entry moment begins is_verdict is_known steps =
    record { begins = begins; is_verdict = is_verdict; is_known = is_known; note = some_note entry moment steps }

abbrev over : List NoteStep
over = TimeOver ∷ []

-- Seven entries, and four episodes: the entry 0; those from 1 on, with verdicts at 20 and at 30, of which 2 tells
-- nothing; the entry 4, which is no verdict; and those from 5 on, with a verdict at 60.
abbrev entry_0 : EntryTold
entry_0 = some_entry 0 5 true false true []

abbrev entry_1 : EntryTold
entry_1 = some_entry 1 20 true true true over

abbrev entry_2 : EntryTold
entry_2 = some_entry 2 25 false false true []

abbrev entry_3 : EntryTold
entry_3 = some_entry 3 30 false true false over

abbrev entry_4 : EntryTold
entry_4 = some_entry 4 40 true false false over

abbrev entry_5 : EntryTold
entry_5 = some_entry 5 50 true false true over

abbrev entry_6 : EntryTold
entry_6 = some_entry 6 60 false true true over

abbrev some_told : List EntryTold
some_told = entry_6 ∷ entry_5 ∷ entry_4 ∷ entry_3 ∷ entry_2 ∷ entry_1 ∷ entry_0 ∷ []

abbrev first_run : List EntryTold
first_run = entry_3 ∷ entry_2 ∷ entry_1 ∷ []

abbrev last_run : List EntryTold
last_run = entry_6 ∷ entry_5 ∷ []

runs_are : episodes some_told ≡ last_run ∷ (entry_4 ∷ []) ∷ first_run ∷ (entry_0 ∷ []) ∷ []
runs_are = refl

-- the first verdict of an episode is its earliest
first_at_20 : earliest_verdict first_run ≡ Some 20
first_at_20 = refl

none_without : earliest_verdict (entry_4 ∷ []) ≡ None
none_without = refl

-- the notes have the earliest first, without those that tell nothing
notes_in_order : notes_of first_run ≡ some_note 1 20 over ∷ some_note 3 30 over ∷ []
notes_in_order = refl

-- ---- accounts

abbrev asks : ℕ → Bool → MemberQuestion
asks at all = record { name = 99 ∷ []; at = at; all = all }

abbrev first_account : AccountValue
first_account = record { notes = some_note 1 20 over ∷ some_note 3 30 over ∷ []; is_known = false }

abbrev last_account : AccountValue
last_account = record { notes = some_note 5 50 over ∷ some_note 6 60 over ∷ []; is_known = true }

-- all of them are told in order, and else the last alone
all_are_told : accounts_told (asks 1000 true) (episodes some_told) ≡ first_account ∷ last_account ∷ []
all_are_told = refl

last_is_told : accounts_told (asks 1000 false) (episodes some_told) ≡ last_account ∷ []
last_is_told = refl

-- One whose first verdict came at 60 is told at 60, and not at 59. One whose first verdict came at 20 is told at 20,
-- although another came later.
told_at_60 : accounts_told (asks 60 false) (episodes some_told) ≡ last_account ∷ []
told_at_60 = refl

told_at_59 : accounts_told (asks 59 false) (episodes some_told) ≡ first_account ∷ []
told_at_59 = refl

told_at_20 : accounts_told (asks 20 true) (episodes some_told) ≡ first_account ∷ []
told_at_20 = refl

told_at_19 : accounts_told (asks 19 false) (episodes some_told) ≡ []
told_at_19 = refl
