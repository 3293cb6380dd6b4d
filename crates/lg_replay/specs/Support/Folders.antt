-- How far the replay of a folder has come.
use Rattle.std.specs.Prelude.{◌≡◌, ℕ, ◌<◌, ◌≤◌, Bool, true, List, [], ◌∷◌, ◌++◌, length, map, Option, Ok, Err}
use Rattle.std.specs.List.{AllByRecursion}
use Rattle.std.specs.Io.KnownBytes.{Appends}
use Rattle.std.specs.declared.io.ErrorKind.TheVariants.{OutOfMemory}
use Rattle.lg_text.specs.Meaning.Running.{AppendsFront}
use Rattle.lg_replay.specs.declared.fault.FolderFault.{FolderFault}
use Rattle.lg_replay.specs.declared.fault.FolderFault.TheVariants.{Unlisted, NoFile, Unread, TooLarge, Memory, Write}
use Rattle.lg_replay.specs.declared.folder.Replayed.{Replayed}
use Rattle.lg_replay.specs.declared.replayer.Replayer.{Replayer}
use Rattle.lg_replay.specs.declared.window.Window.{Window}
use Rattle.lg_replay.specs.Meaning.Files.{RecordingFile}
use Rattle.lg_replay.specs.Meaning.Folders.{FilesCall, IsReplayable, files_read, most_file_bytes, file_number}
use Rattle.lg_replay.specs.Meaning.Folders.FilesCall.{Read}
use Rattle.lg_replay.specs.Meaning.Lives.{unknown_life}
use Rattle.lg_replay.specs.Meaning.Replays.{all_verdicts, files_text, replay_end}
use Rattle.lg_replay.specs.Meaning.Verdicts.{counts_line, counts_of}
use Rattle.lg_replay.specs.Support.Replayed.{IsReplayed}

-- Behind the calls `before`, these files were read, replayed and told.
pub record SoFar
    (tells : Bool) (before now : List FilesCall) (window : Window) (held holds : Option (List ℕ)) (replayer : Replayer)
    (files : List RecordingFile)
    : Type 0 where
  pub replayed : IsReplayed replayer files
  pub within : AllByRecursion IsReplayable files
  pub calls : tells ≡ true → now ≡ files_read files before
  pub wrote : Appends held holds (files_text window unknown_life files)

-- And so was one more, of this number.
pub record GoesOnByFile
    (tells : Bool) (before now : List FilesCall) (window : Window) (held holds : Option (List ℕ)) (replayer : Replayer)
    (earlier : List RecordingFile) (number : ℕ)
    : Type 0 where
  pub bytes : List ℕ
  pub so_far : SoFar tells before now window held holds replayer
      (earlier ++ record { number = number; bytes = bytes } ∷ [])

-- So were all files with these numbers.
pub record HasReplayed
    (tells : Bool) (before now : List FilesCall) (numbers : List ℕ) (window : Window) (held holds : Option (List ℕ))
    (replayer : Replayer)
    : Type 0 where
  pub files : List RecordingFile
  pub are : map file_number files ≡ numbers
  pub so_far : SoFar tells before now window held holds replayer files

-- The file with this number was read whole, and has these bytes.
pub record IsReadWhole (tells : Bool) (before now : List FilesCall) (number : ℕ) (bytes : List ℕ) : Type 0 where
  pub few : length bytes ≤ most_file_bytes
  pub calls : tells ≡ true → now ≡ Read number bytes (Ok tt) ∷ before

-- It wasn't.
abbrev pub ReadFails : Bool → (before now : List FilesCall) → ℕ → FolderFault → Type 0
ReadFails tells before now number (Unlisted kind) = ⊥
ReadFails tells before now number NoFile = ⊥
ReadFails tells before now number (Unread other kind) =
    (bytes : List ℕ) × (other ≡ number) × (tells ≡ true → now ≡ Read number bytes (Err kind) ∷ before)
ReadFails tells before now number (TooLarge other) =
    (bytes : List ℕ) × (other ≡ number) × (tells ≡ true → now ≡ Read number bytes (Ok tt) ∷ before)
    × (most_file_bytes < length bytes)
ReadFails tells before now number Memory =
    (bytes : List ℕ) × (tells ≡ true → now ≡ Read number bytes (Err OutOfMemory) ∷ before)
ReadFails tells before now number (Write fault) = ⊥

-- The last line was written, and the end is that of these files.
pub record EndsAll
    (held holds : Option (List ℕ)) (files : List RecordingFile) (done : Replayed)
    : Type 0 where
  pub wrote : Appends held holds (counts_line (all_verdicts unknown_life files))
  pub ended : done.end ≡ replay_end files
  pub counted : done.counts ≡ counts_of (all_verdicts unknown_life files)

-- It wasn't.
abbrev pub EndFails : (held holds : Option (List ℕ)) → List RecordingFile → FolderFault → Type 0
EndFails held holds files (Unlisted kind) = ⊥
EndFails held holds files NoFile = ⊥
EndFails held holds files (Unread number kind) = ⊥
EndFails held holds files (TooLarge number) = ⊥
EndFails held holds files Memory = holds ≡ held
EndFails held holds files (Write fault) = AppendsFront held holds (counts_line (all_verdicts unknown_life files))
