-- How the recording in a folder is replayed for a command line: what is written, what is told, and the exit status.
use Rattle.std.specs.Prelude.{◌≡◌, ◌⊎◌, ℕ, false, List, [], Option, Result, Ok, Err, MatchResult}
use Rattle.lg_text.specs.Meaning.Reporting.{Reported, Reports}
use Rattle.lg_replay.specs.declared.fault.FolderFault.{FolderFault}
use Rattle.lg_replay.specs.declared.folder.Replayed.{Replayed}
use Rattle.lg_replay.specs.declared.window.Window.{Window}
use Rattle.lg_replay.specs.Meaning.Folders.{LeavesBehind, ReplaysAll}
use Rattle.lg_replay_run.specs.Meaning.Words.{replay_status, first_line, second_line}

-- It is told in two lines why a folder wasn't read to its end. If memory for the second is refused, there is none.
pub record TellsFolderFault
    (reported reports : Reported) (folder : List ℕ) (fault : FolderFault) (status : ℕ) : Type 0 where
  pub second : List ℕ
  pub reason : (second ≡ []) ⊎ (second ≡ second_line folder fault)
  pub between : Reported
  pub first_taken : Reports reported between (first_line fault)
  pub second_taken : Reports between reports second
  pub is : status ≡ 1

-- What is told of a replay, and its exit status. Of one that came to its end nothing is told but what it wrote.
abbrev pub TellsReplay :
    (reported reports : Reported) (folder : List ℕ) → Result Replayed FolderFault → (status : ℕ) → Type 0
TellsReplay reported reports folder (Ok done) status = (reports ≡ reported) × (status ≡ replay_status done.end)
TellsReplay reported reports folder (Err fault) status = TellsFolderFault reported reports folder fault status

-- The files of a folder are replayed, whatever it has: what is written is what the definitions tell of some files, in
-- the order of their numbers, and how that went is told. No contract can say what a folder has.
pub record ReplaysFolder
    (held holds : Option (List ℕ)) (reported reports : Reported) (folder : List ℕ) (window : Window) (status : ℕ)
    : Type 0 where
  pub replayed : Result Replayed FolderFault
  pub did : MatchResult replayed (ReplaysAll false [] [] window held holds)
      (LeavesBehind false [] [] window held holds)
  pub told : TellsReplay reported reports folder replayed status
