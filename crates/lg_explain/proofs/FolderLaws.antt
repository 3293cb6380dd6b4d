-- The files of a folder, taken one after another.
use Rattle.std.proofs.Common.{◌≡◌, ◌<◌, ℕ, Bool, true, List, [], ◌∷◌, ◌++◌, ◌+◌, length, get_or, take, Ok, Err, refl, sym, ap, subst, ◌∙◌, arith, append-nil}
use Rattle.std.specs.Prelude.{map}
use Rattle.std.specs.List.{AllByRecursion}
use Rattle.std.specs.declared.io.ErrorKind.TheVariants.{OutOfMemory}
use Rattle.std.proofs.lemmas.List.{take_more}
use Rattle.lg_accounts.specs.declared.account.Account.{Account}
use Rattle.lg_replay.specs.declared.fault.FolderFault.{FolderFault}
use Rattle.lg_replay.specs.declared.fault.FolderFault.TheVariants.{Unlisted, NoFile, Unread, TooLarge, Memory, Write}
use Rattle.lg_replay.specs.Meaning.Files.{RecordingFile}
use Rattle.lg_replay.specs.Meaning.Folders.{FilesCall, IsReplayable, ReadsFiles, files_read, file_number}
use Rattle.lg_replay.specs.Meaning.Folders.FilesCall.{Read}
use Rattle.lg_replay.specs.Support.Folders.{IsReadWhole, ReadFails}
use Rattle.lg_replay.proofs.FolderLaws.{numbers_more}
use Rattle.lg_accounts.specs.Meaning.Values.{account_value}
use Rattle.lg_explain.specs.Meaning.Explanations.{accounts_of}
use Rattle.lg_explain.specs.Meaning.Folders.{ExplainsListed, FailsAtReading, file_bytes}
use Rattle.lg_explain.specs.Support.Explained.{HasExplained}
use Rattle.lg_explain.specs.Support.FolderAccounts.{TakenAll, TakenOnByFile, TakenSoFar}
use Rattle.lg_explain.specs.declared.explainer.Explainer.{Explainer}
use Rattle.lg_explain.specs.declared.question.MemberQuestion.{MemberQuestion}

-- ---- one file more

calls_on : (xs : List RecordingFile) (x : RecordingFile) (calls : List FilesCall) → files_read (xs ++ x ∷ []) calls ≡ Read x.number x.bytes (Ok tt) ∷ files_read xs calls
calls_on [] x calls = refl
calls_on (y ∷ ys) x calls = calls_on ys x (Read y.number y.bytes (Ok tt) ∷ calls)

bytes_on : (xs : List RecordingFile) (x : RecordingFile) → map file_bytes (xs ++ x ∷ []) ≡ map file_bytes xs ++ x.bytes ∷ []
bytes_on [] x = refl
bytes_on (y ∷ ys) x = ap (λ (l : List (List ℕ)). y.bytes ∷ l) (bytes_on ys x)

within_on : (xs : List RecordingFile) (x : RecordingFile) → AllByRecursion IsReplayable xs → IsReplayable x → AllByRecursion IsReplayable (xs ++ x ∷ [])
within_on [] x all one = (one, tt)
within_on (y ∷ ys) x all one = (all.0, within_on ys x all.1 one)

abbrev one_file : ℕ → List ℕ → RecordingFile
one_file number bytes = record { number = number; bytes = bytes }

pub took_on : (tells : Bool) (before p0 p1 : List FilesCall) (e0 e1 : Explainer) (question : MemberQuestion) (earlier : List RecordingFile) (number : ℕ) (bytes : List ℕ)
    → TakenSoFar tells before p0 e0 question earlier → IsReadWhole tells p0 p1 number bytes
    → ((asked : MemberQuestion) (files : List (List ℕ)) → HasExplained e0 asked files → HasExplained e1 asked (files ++ bytes ∷ []))
    → TakenOnByFile tells before p1 e1 question earlier number
took_on tells before p0 p1 e0 e1 question earlier number bytes so read took = record {
  bytes = bytes;
  so_far = record {
    taken =
        subst (λ (l : List (List ℕ)). HasExplained e1 question l) (sym (bytes_on earlier (one_file number bytes)))
        (took question (map file_bytes earlier) so.taken);
    within = within_on earlier (one_file number bytes) so.within read.few;
    calls = λ told.
        read.calls told ∙ ap (λ (cs : List FilesCall). Read number bytes (Ok tt) ∷ cs) (so.calls told) ∙ sym (calls_on earlier (one_file number bytes) before);
  };
}

pub taken_on : (tells : Bool) (before p1 : List FilesCall) (numbers : List ℕ) (e1 : Explainer) (question : MemberQuestion) (i : ℕ) (earlier : List RecordingFile)
    → i < length numbers → map file_number earlier ≡ take i numbers → TakenOnByFile tells before p1 e1 question earlier (get_or numbers i 0)
    → TakenAll tells before p1 (take (i + 1) numbers) e1 question
taken_on tells before p1 numbers e1 question i earlier within are on = record {
  files = earlier ++ one_file (get_or numbers i 0) on.bytes ∷ [];
  are =
      numbers_more earlier (one_file (get_or numbers i 0) on.bytes)
      ∙ ap (λ (ns : List ℕ). ns ++ get_or numbers i 0 ∷ []) are
      ∙ sym (take_more numbers i 0 within);
  so_far = on.so_far;
}

pub taken_none : (tells : Bool) (before : List FilesCall) (e : Explainer) (question : MemberQuestion) → HasExplained e question [] → TakenAll tells before before [] e question
taken_none tells before e question taken = record { files = []; are = refl; so_far = record { taken = taken; within = tt; calls = λ told. refl } }

-- ---- a fault at a file

stops_at : (tells : Bool) (before p0 p1 : List FilesCall) (numbers : List ℕ) (e : Explainer) (question : MemberQuestion) (earlier : List RecordingFile) (others : List ℕ) (last : FilesCall)
    → TakenSoFar tells before p0 e question earlier → numbers ≡ map file_number earlier ++ others → (tells ≡ true → p1 ≡ last ∷ p0)
    → ReadsFiles tells before p1 numbers earlier others (last ∷ [])
stops_at tells before p0 p1 numbers e question earlier others last so are call = record {
  are = are;
  within = so.within;
  calls = λ told. call told ∙ ap (λ (cs : List FilesCall). last ∷ cs) (so.calls told);
}

pub unread : (tells : Bool) (before p0 p1 : List FilesCall) (numbers : List ℕ) (e : Explainer) (question : MemberQuestion) (earlier : List RecordingFile) (number : ℕ) (others : List ℕ)
    (fault : FolderFault) → ReadFails tells p0 p1 number fault → TakenSoFar tells before p0 e question earlier → numbers ≡ map file_number earlier ++ number ∷ others
    → FailsAtReading tells before p1 numbers fault
unread tells before p0 p1 numbers e question earlier number others (Unlisted kind) fails so are = absurd fails
unread tells before p0 p1 numbers e question earlier number others NoFile fails so are = absurd fails
unread tells before p0 p1 numbers e question earlier number others (Unread other kind) fails so are =
    subst (λ (n : ℕ). FailsAtReading tells before p1 numbers (Unread n kind)) (sym fails.1)
    (earlier, others, fails.0, stops_at tells before p0 p1 numbers e question earlier (number ∷ others) (Read number fails.0 (Err kind)) so are fails.2)
unread tells before p0 p1 numbers e question earlier number others (TooLarge other) fails so are =
    subst (λ (n : ℕ). FailsAtReading tells before p1 numbers (TooLarge n)) (sym fails.1)
    (earlier, others, fails.0, stops_at tells before p0 p1 numbers e question earlier (number ∷ others) (Read number fails.0 (Ok tt)) so are fails.2, fails.3)
unread tells before p0 p1 numbers e question earlier number others Memory fails so are =
    (earlier, number ∷ others, Read number fails.0 (Err OutOfMemory) ∷ [], stops_at tells before p0 p1 numbers e question earlier (number ∷ others) (Read number fails.0 (Err OutOfMemory)) so are fails.1, omega arith)
unread tells before p0 p1 numbers e question earlier number others (Write fault) fails so are = absurd fails

-- memory was refused while a file was taken
pub untaken : (tells : Bool) (before p0 p1 : List FilesCall) (numbers : List ℕ) (e : Explainer) (question : MemberQuestion) (earlier : List RecordingFile) (number : ℕ) (others bytes : List ℕ)
    → IsReadWhole tells p0 p1 number bytes → TakenSoFar tells before p0 e question earlier → numbers ≡ map file_number earlier ++ number ∷ others
    → FailsAtReading tells before p1 numbers Memory
untaken tells before p0 p1 numbers e question earlier number others bytes read so are =
    (earlier, number ∷ others, Read number bytes (Ok tt) ∷ [], stops_at tells before p0 p1 numbers e question earlier (number ∷ others) (Read number bytes (Ok tt)) so are read.calls, omega arith)

-- memory was refused before the first file
pub unbegun_taking : (tells : Bool) (before : List FilesCall) (numbers : List ℕ) → FailsAtReading tells before before numbers Memory
unbegun_taking tells before numbers = ([], numbers, [], record { are = refl; within = tt; calls = λ told. refl }, omega arith)

-- memory was refused behind the last one
pub unfinished : (tells : Bool) (before p1 : List FilesCall) (numbers : List ℕ) (e : Explainer) (question : MemberQuestion) → TakenAll tells before p1 numbers e question
    → FailsAtReading tells before p1 numbers Memory
unfinished tells before p1 numbers e question all =
    (all.files, [], [], record { are = sym all.are ∙ sym (append-nil (map file_number all.files)); within = all.so_far.within; calls = all.so_far.calls }, omega arith)

-- ---- all of them

pub explained : (tells : Bool) (before p1 : List FilesCall) (numbers : List ℕ) (e : Explainer) (question : MemberQuestion) (accounts : List Account)
    → TakenAll tells before p1 numbers e question → ((asked : MemberQuestion) (files : List (List ℕ)) → HasExplained e asked files → map account_value accounts ≡ accounts_of asked files)
    → ExplainsListed tells before p1 numbers question accounts
explained tells before p1 numbers e question accounts all gives = record {
  files = all.files;
  reads = record { are = sym all.are ∙ sym (append-nil (map file_number all.files)); within = all.so_far.within; calls = all.so_far.calls };
  are = gives question (map file_bytes all.files) all.so_far.taken;
}
