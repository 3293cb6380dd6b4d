-- How an explainer goes on: by the entries of a file, and by a file.
use Rattle.std.proofs.Common.{◌≡◌, ℕ, List, [], ◌∷◌, ◌++◌, Result, Ok, Err, refl, sym, ap, subst, ◌∙◌}
use Rattle.lg_fields.specs.declared.fault.FieldFault.{FieldFault}
use Rattle.lg_heads.specs.Meaning.Heads.{HeadValue}
use Rattle.lg_recording.specs.Meaning.Values.{RecordedEntry}
use Rattle.lg_recording.specs.Meaning.Listing.{ListedEntries, entries_scan}
use Rattle.lg_replay.specs.Meaning.Files.{FileRead, read_behind}
use Rattle.lg_replay.specs.Meaning.Heads.{file_head_scan}
use Rattle.lg_accounts.specs.Meaning.Values.{AccountValue}
use Rattle.lg_explain.specs.Meaning.Accounts.{accounts_told}
use Rattle.lg_explain.specs.Meaning.Episodes.{episodes}
use Rattle.lg_explain.specs.Meaning.Explanations.{accounts_of}
use Rattle.lg_explain.specs.Meaning.Places.{FilesRead, entries_read, entry_read, file_read, files_read_behind, head_read, nothing_read, recording_read, with_read}
use Rattle.lg_explain.specs.Meaning.Tellings.{all_told}
use Rattle.lg_explain.specs.Meaning.Told.{EntryTold}
use Rattle.lg_explain.specs.Support.Episodes.{HasGathered}
use Rattle.lg_explain.specs.Support.Explained.{ReadsOn, HasReached, HasExplained}
use Rattle.lg_explain.specs.declared.explainer.Explainer.{Explainer}
use Rattle.lg_explain.specs.declared.question.MemberQuestion.{MemberQuestion}

-- ---- entries

-- It has read so much of the entries that the ones that are left lead to where all of them do.
pub record IsBetween (now : Explainer) (name : List ℕ) (head : HeadValue) (r : FilesRead) (all left : List RecordedEntry) : Type 0 where
  pub read : FilesRead
  pub has : HasReached now read
  pub leads : entries_read name head read left ≡ entries_read name head r all

pub record IsAmid (old now : Explainer) (head : HeadValue) (all left : List RecordedEntry) : Type 0 where
  pub question : now.question ≡ old.question
  pub reached : (r : FilesRead) → HasReached old r → IsBetween now old.question.name head r all left

pub amid_none : (e : Explainer) (head : HeadValue) (all : List RecordedEntry) → IsAmid e e head all all
amid_none e head all = record { question = refl; reached = λ r has. record { read = r; has = has; leads = refl } }

pub amid_on : (old now next : Explainer) (head : HeadValue) (all left rest : List RecordedEntry) (x : RecordedEntry) → IsAmid old now head all left → left ≡ x ∷ rest
    → ReadsOn now next (λ r. entry_read now.question.name head r x) → IsAmid old next head all rest
amid_on old now next head all left rest x amid is went = record {
  question = went.question ∙ amid.question;
  reached = λ r has.
      let between = amid.reached r has in
      record {
        read = entry_read old.question.name head between.read x;
        has =
            subst (λ (q : MemberQuestion). HasReached next (entry_read q.name head between.read x)) amid.question
            (went.reached between.read between.has);
        leads = sym (ap (λ (xs : List RecordedEntry). entries_read old.question.name head between.read xs) is) ∙ between.leads;
      };
}

pub amid_all : (old now : Explainer) (head : HeadValue) (all left : List RecordedEntry) → IsAmid old now head all left → left ≡ []
    → ReadsOn old now (λ r. entries_read old.question.name head r all)
amid_all old now head all left amid is = record {
  question = amid.question;
  reached = λ r has.
      let between = amid.reached r has in
      subst (λ (read : FilesRead). HasReached now read)
      (sym (ap (λ (xs : List RecordedEntry). entries_read old.question.name head between.read xs) is) ∙ between.leads) between.has;
}

-- the entries that are listed
pub listed_are : (bytes : List ℕ) (l : ListedEntries) → entries_scan bytes ≡ l → (entries_scan bytes).entries ≡ l.entries
listed_are bytes l is = ap (λ (r : ListedEntries). r.entries) is

-- ---- files

files_more : (name : List ℕ) (r : FilesRead) (files : List (List ℕ)) (bytes : List ℕ)
    → files_read_behind name r (files ++ bytes ∷ []) ≡ file_read name (files_read_behind name r files) bytes
files_more name r [] bytes = refl
files_more name r (x ∷ xs) bytes = files_more name (file_read name r x) xs bytes

pub took_file : (old new : Explainer) (asked : MemberQuestion) (files : List (List ℕ)) (bytes : List ℕ) → HasExplained old asked files → new.question ≡ old.question
    → HasReached new (file_read asked.name (recording_read asked.name files) bytes) → HasExplained new asked (files ++ bytes ∷ [])
took_file old new asked files bytes taken same reached = record {
  question = same ∙ taken.question;
  reached = subst (λ (r : FilesRead). HasReached new r) (sym (files_more asked.name nothing_read files bytes)) reached;
}

pub took_read : (old new : Explainer) (bytes rest : List ℕ) (head : HeadValue) → file_head_scan bytes ≡ Ok (head, rest)
    → ReadsOn old new (λ r. entries_read old.question.name head (head_read old.question.name head r) (entries_scan rest).entries)
    → (asked : MemberQuestion) (files : List (List ℕ)) → HasExplained old asked files → HasExplained new asked (files ++ bytes ∷ [])
took_read old new bytes rest head is went asked files taken =
    let before = recording_read asked.name files in
    took_file old new asked files bytes taken went.question
    (subst (λ (read : Result FileRead FieldFault). HasReached new (with_read asked.name before read))
    (sym (ap (λ (h : Result (HeadValue × List ℕ) FieldFault). read_behind h) is))
    (subst (λ (q : MemberQuestion). HasReached new (entries_read q.name head (head_read q.name head before) (entries_scan rest).entries)) taken.question
    (went.reached before taken.reached)))

pub took_headless : (e : Explainer) (bytes : List ℕ) (fault : FieldFault) → file_head_scan bytes ≡ Err fault
    → (asked : MemberQuestion) (files : List (List ℕ)) → HasExplained e asked files → HasExplained e asked (files ++ bytes ∷ [])
took_headless e bytes fault is asked files taken =
    took_file e e asked files bytes taken refl
    (subst (λ (read : Result FileRead FieldFault). HasReached e (with_read asked.name (recording_read asked.name files) read))
    (sym (ap (λ (h : Result (HeadValue × List ℕ) FieldFault). read_behind h) is)) taken.reached)

-- ---- all of them

pub accounts_are : (e : Explainer) (accounts : List AccountValue) → ((told : List EntryTold) → HasGathered e.gathered e.question told → accounts ≡ accounts_told e.question (episodes told))
    → (asked : MemberQuestion) (files : List (List ℕ)) → HasExplained e asked files → accounts ≡ accounts_of asked files
unfolding accounts_of
accounts_are e accounts gives asked files taken =
    let told = all_told (recording_read asked.name files).entries in
    gives told taken.reached.told ∙ ap (λ (q : MemberQuestion). accounts_told q (episodes told)) taken.question
