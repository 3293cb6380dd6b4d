-- What the replay of a folder promises: of which calls it made to read the files, of what it wrote, and of its end.
use Rattle.std.specs.Prelude.{◌≡◌, ◌⊎◌, ℕ, ◌<◌, ◌≤◌, Bool, true, List, [], ◌∷◌, ◌++◌, length, map, Option}
use Rattle.std.specs.Prelude.{Result, Ok, Err, IsSorted}
use Rattle.std.specs.List.{AllByRecursion}
use Rattle.std.specs.Ordering.{nat_cmp}
use Rattle.std.specs.Io.KnownBytes.{Appends}
use Rattle.std.specs.declared.io.ErrorKind.{ErrorKind}
use Rattle.std.specs.declared.io.ErrorKind.TheVariants.{OutOfMemory}
use Rattle.lg_text.specs.Meaning.Running.{AppendsFront}
use Rattle.lg_replay.specs.declared.fault.FolderFault.{FolderFault}
use Rattle.lg_replay.specs.declared.fault.FolderFault.TheVariants.{Unlisted, NoFile, Unread, TooLarge, Memory, Write}
use Rattle.lg_replay.specs.declared.folder.Replayed.{Replayed}
use Rattle.lg_replay.specs.declared.window.Window.{Window}
use Rattle.lg_replay.specs.Meaning.Files.{RecordingFile}
use Rattle.lg_replay.specs.Meaning.Lives.{unknown_life}
use Rattle.lg_replay.specs.Meaning.Replays.{all_verdicts, files_text, replay_end, replay_text}
use Rattle.lg_replay.specs.Meaning.Verdicts.{counts_of}

-- One call to the files of a recording, and its result: their numbers were listed, in this order; the file with this
-- number was read, and these are the bytes that came.
pub data FilesCall : Type 0 where
  Listed : List ℕ → Result (Unit {0}) ErrorKind → FilesCall
  Read : ℕ → List ℕ → Result (Unit {0}) ErrorKind → FilesCall

-- the number of a file
abbrev pub file_number : RecordingFile → ℕ
file_number file = file.number

-- the calls that read these files one after another, behind those that were made before. The latest call is the first.
abbrev pub files_read : List RecordingFile → List FilesCall → List FilesCall
files_read [] calls = calls
files_read (x ∷ xs) calls = files_read xs (Read x.number x.bytes (Ok tt) ∷ calls)

-- the most bytes of a file that is replayed
abbrev pub most_file_bytes : ℕ
most_file_bytes = 256000000

abbrev pub IsReplayable : RecordingFile → Type 0
IsReplayable file = length file.bytes ≤ most_file_bytes

-- The files were listed: there are some, in the order of their numbers. These are the calls if they can be seen.
pub record ListsFiles (tells : Bool) (past calls : List FilesCall) (numbers : List ℕ) : Type 0 where
  pub sorted : IsSorted nat_cmp numbers
  pub some : 0 < length numbers
  pub listed : tells ≡ true → calls ≡ Listed numbers (Ok tt) ∷ past

-- Behind the list, these files were read whole, one after another, and none of them has too many bytes. The files with
-- the other numbers weren't, and the calls that are left came last.
pub record ReadsFiles
    (tells : Bool) (before after : List FilesCall) (numbers : List ℕ) (files : List RecordingFile) (others : List ℕ)
    (last : List FilesCall)
    : Type 0 where
  pub are : numbers ≡ map file_number files ++ others
  pub within : AllByRecursion IsReplayable files
  pub calls : tells ≡ true → after ≡ last ++ files_read files before

-- ---- all files are replayed

-- Behind the list, all files were read in the order of their numbers, and nothing else was done. What was written is
-- the text of the definitions for them, and the end and the counts are theirs.
pub record ReplaysListed
    (tells : Bool) (before after : List FilesCall) (numbers : List ℕ) (window : Window) (held holds : Option (List ℕ))
    (done : Replayed)
    : Type 0 where
  pub files : List RecordingFile
  pub reads : ReadsFiles tells before after numbers files [] []
  pub wrote : Appends held holds (replay_text window files)
  pub ended : done.end ≡ replay_end files
  pub counted : done.counts ≡ counts_of (all_verdicts unknown_life files)

-- the same with the list that came before
pub record ReplaysAll
    (tells : Bool) (past after : List FilesCall) (window : Window) (held holds : Option (List ℕ)) (done : Replayed)
    : Type 0 where
  pub numbers : List ℕ
  pub before : List FilesCall
  pub lists : ListsFiles tells past before numbers
  pub replays : ReplaysListed tells before after numbers window held holds done

-- ---- a fault

-- The fault came before a file was read, and nothing was written: the files weren't listed, or there are none.
abbrev pub FailsAtList : Bool → (past after : List FilesCall) → FolderFault → Type 0
FailsAtList tells past after (Unlisted kind) =
    (numbers : List ℕ) × (tells ≡ true → after ≡ Listed numbers (Err kind) ∷ past)
FailsAtList tells past after NoFile = tells ≡ true → after ≡ Listed [] (Ok tt) ∷ past
FailsAtList tells past after (Unread number kind) = ⊥
FailsAtList tells past after (TooLarge number) = ⊥
FailsAtList tells past after Memory =
    (numbers : List ℕ) × (tells ≡ true → after ≡ Listed numbers (Err OutOfMemory) ∷ past)
FailsAtList tells past after (Write fault) = ⊥

-- What is written of some files: the last line stands behind all of them alone.
abbrev pub text_before : Window → List RecordingFile → (others : List ℕ) → List ℕ
text_before window files [] = replay_text window files
text_before window files (number ∷ numbers) = files_text window unknown_life files

-- These files were read and replayed. What was written is what the definitions tell of them. One more call at most was
-- made behind that.
pub record StopsBehind
    (tells : Bool) (before after : List FilesCall) (numbers : List ℕ) (window : Window) (held holds : Option (List ℕ))
    (files : List RecordingFile) (others : List ℕ) (last : List FilesCall)
    : Type 0 where
  pub reads : ReadsFiles tells before after numbers files others last
  pub wrote : Appends held holds (files_text window unknown_life files)

-- The files were listed, and then the fault came: the next file couldn't be read, or has too many bytes; memory was
-- refused; or a beginning of what is told of the files that were read was written, and the rest couldn't be.
abbrev pub FailsAtFile : Bool → (before after : List FilesCall) → List ℕ → Window → (held holds : Option (List ℕ))
    → FolderFault → Type 0
FailsAtFile tells before after numbers window held holds (Unlisted kind) = ⊥
FailsAtFile tells before after numbers window held holds NoFile = ⊥
FailsAtFile tells before after numbers window held holds (Unread number kind) =
    (files : List RecordingFile) × (others bytes : List ℕ)
    × StopsBehind tells before after numbers window held holds files (number ∷ others)
    (Read number bytes (Err kind) ∷ [])
FailsAtFile tells before after numbers window held holds (TooLarge number) =
    (files : List RecordingFile) × (others bytes : List ℕ)
    × StopsBehind tells before after numbers window held holds files (number ∷ others) (Read number bytes (Ok tt) ∷ [])
    × (most_file_bytes < length bytes)
FailsAtFile tells before after numbers window held holds Memory =
    (files : List RecordingFile) × (others : List ℕ) × (last : List FilesCall)
    × StopsBehind tells before after numbers window held holds files others last
    × (length last ≤ 1)
FailsAtFile tells before after numbers window held holds (Write fault) =
    (files : List RecordingFile) × (others : List ℕ)
    × ReadsFiles tells before after numbers files others []
    × AppendsFront held holds (text_before window files others)

-- the same with the list that came before
pub record FailsBehindList
    (tells : Bool) (past after : List FilesCall) (window : Window) (held holds : Option (List ℕ)) (fault : FolderFault)
    : Type 0 where
  pub numbers : List ℕ
  pub before : List FilesCall
  pub lists : ListsFiles tells past before numbers
  pub fails : FailsAtFile tells before after numbers window held holds fault

-- what a fault leaves
abbrev pub LeavesBehind : Bool → (past after : List FilesCall) → Window → (held holds : Option (List ℕ)) → FolderFault
    → Type 0
LeavesBehind tells past after window held holds fault =
    (FailsAtList tells past after fault × (holds ≡ held))
    ⊎ FailsBehindList tells past after window held holds fault
