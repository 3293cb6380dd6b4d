-- The notes of accounts are those of entries.
use Rattle.std.proofs.Common.{ℕ, Bool, true, false, List, [], ◌∷◌, ◌++◌, refl, sym, subst, append_assoc}
use Rattle.std.specs.Prelude.{filter, map, reverse, if◌then◌else◌, cond}
use Rattle.std.specs.List.{AllByRecursion}
use Rattle.std.proofs.lemmas.List.{reverse-append}
use Rattle.lg_accounts.specs.Meaning.Values.{AccountValue}
use Rattle.lg_explain.specs.Meaning.Accounts.{account_of, first_only}
use Rattle.lg_explain.specs.Meaning.Episodes.{episodes, is_told_by, run_joined, note_in, notes_of, tells_it}
use Rattle.lg_explain.specs.Meaning.Explanations.{accounts_of}
use Rattle.lg_explain.specs.Meaning.Places.{PlacedEntry, recording_read}
use Rattle.lg_explain.specs.Meaning.Sources.{HasNotesOf, IsNoteOf}
use Rattle.lg_explain.specs.Meaning.Tellings.{all_told}
use Rattle.lg_explain.specs.Meaning.Told.{EntryTold}
use Rattle.lg_explain.specs.declared.question.MemberQuestion.{MemberQuestion}

-- ---- lists

all_append : {X : Type 0} (P : X → Type 0) (xs ys : List X) → AllByRecursion P xs → AllByRecursion P ys → AllByRecursion P (xs ++ ys)
all_append P [] ys all others = others
all_append P (x ∷ xs) ys all others = (all.0, all_append P xs ys all.1 others)

all_filter : {X : Type 0} (P : X → Type 0) (test : X → Bool) (xs : List X) → AllByRecursion P xs → AllByRecursion P (filter test xs)
all_filter P test [] all = tt
all_filter P test (x ∷ xs) all = by_test (test x) (all_filter P test xs all.1)
  where
    by_test : (b : Bool) → AllByRecursion P (filter test xs) → AllByRecursion P (cond b (x ∷ filter test xs) (filter test xs))
    by_test true rest = (all.0, rest)
    by_test false rest = rest

all_map : {X Y : Type 0} (P : Y → Type 0) (f : X → Y) (xs : List X) → AllByRecursion (λ x. P (f x)) xs → AllByRecursion P (map f xs)
all_map P f [] all = tt
all_map P f (x ∷ xs) all = (all.0, all_map P f xs all.1)

all_reverse : {X : Type 0} (P : X → Type 0) (xs : List X) → AllByRecursion P xs → AllByRecursion P (reverse xs)
all_reverse P [] all = tt
all_reverse P (x ∷ xs) all =
    subst (λ l. AllByRecursion P l) (sym (reverse-append (x ∷ []) xs)) (all_append P (reverse xs) (x ∷ []) (all_reverse P xs all.1) (all.0, tt))

-- ---- entries and episodes

abbrev ToldOf : List PlacedEntry → EntryTold → Type 0
ToldOf entries told = IsNoteOf entries told.note

told_rest : (later past : List PlacedEntry) → AllByRecursion (ToldOf (later ++ past)) (all_told past)
told_rest later [] = tt
told_rest later (x ∷ past) = (
  record { later = later; entry = x; past = past; are = refl; is = refl },
  subst (λ (entries : List PlacedEntry). AllByRecursion (ToldOf entries) (all_told past)) (append_assoc later (x ∷ []) past) (told_rest (later ++ x ∷ []) past),
)

runs_joined : (P : EntryTold → Type 0) (x : EntryTold) (runs : List (List EntryTold)) → P x → AllByRecursion (AllByRecursion P) runs
    → AllByRecursion (AllByRecursion P) (run_joined x runs)
runs_joined P x [] one all = ((one, tt), tt)
runs_joined P x (episode ∷ runs) one all = ((one, all.0), all.1)

runs_all : (P : EntryTold → Type 0) (told : List EntryTold) → AllByRecursion P told → AllByRecursion (AllByRecursion P) (episodes told)
runs_all P [] all = tt
runs_all P (x ∷ past) all = by_begins x.begins (runs_all P past all.1)
  where
    by_begins : (b : Bool) → AllByRecursion (AllByRecursion P) (episodes past)
        → AllByRecursion (AllByRecursion P) (if b then (x ∷ []) ∷ episodes past else run_joined x (episodes past))
    by_begins true runs = ((all.0, tt), runs)
    by_begins false runs = runs_joined P x (episodes past) all.0 runs

-- ---- accounts

notes_rest : (entries : List PlacedEntry) (episode : List EntryTold) → AllByRecursion (ToldOf entries) episode → AllByRecursion (IsNoteOf entries) (notes_of episode)
notes_rest entries episode all =
    all_reverse (IsNoteOf entries) (filter tells_it (map note_in episode))
    (all_filter (IsNoteOf entries) tells_it (map note_in episode) (all_map (IsNoteOf entries) note_in episode all))

accounts_rest : (entries : List PlacedEntry) (runs : List (List EntryTold)) → AllByRecursion (AllByRecursion (ToldOf entries)) runs
    → AllByRecursion (λ run. HasNotesOf entries (account_of run)) runs
accounts_rest entries [] all = tt
accounts_rest entries (run ∷ runs) all = (notes_rest entries run all.0, accounts_rest entries runs all.1)

first_rests : (P : AccountValue → Type 0) (accounts : List AccountValue) → AllByRecursion P accounts → AllByRecursion P (first_only accounts)
first_rests P [] all = tt
first_rests P (account ∷ accounts) all = (all.0, tt)

chosen_rest : (P : AccountValue → Type 0) (b : Bool) (told : List AccountValue) → AllByRecursion P told → AllByRecursion P (if b then reverse told else first_only told)
chosen_rest P true told all = all_reverse P told all
chosen_rest P false told all = first_rests P told all

pub all_rest : (question : MemberQuestion) (files : List (List ℕ)) → AllByRecursion (HasNotesOf (recording_read question.name files).entries) (accounts_of question files)
unfolding accounts_of
all_rest question files =
    let entries = (recording_read question.name files).entries in
    let runs = episodes (all_told entries) in
    let told = filter (is_told_by question.at) runs in
    chosen_rest (HasNotesOf entries) question.all (map account_of told)
    (all_map (HasNotesOf entries) account_of told
    (all_filter (λ (run : List EntryTold). HasNotesOf entries (account_of run)) (is_told_by question.at) runs
    (accounts_rest entries runs (runs_all (ToldOf entries) (all_told entries) (told_rest [] entries)))))
