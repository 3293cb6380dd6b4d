-- The lines in words about a folder that wasn't read to its end, and the exit status of a replay (this project's
-- choice).
use Rattle.std.specs.Prelude.{ℕ, List, [], ◌++◌, codes, decimal}
use Rattle.std.specs.declared.io.ErrorKind.{ErrorKind}
use Rattle.std.specs.declared.io.ErrorKind.TheVariants as error
use Rattle.lg_text.specs.Meaning.Faults.{run_fault_text, unwritten_text}
use Rattle.lg_text.specs.Meaning.Lines.{newline}
use Rattle.lg_text.specs.declared.fault.RunFault.TheVariants as run
use Rattle.lg_replay.specs.declared.end.ReplayEnd.{ReplayEnd}
use Rattle.lg_replay.specs.declared.end.ReplayEnd.TheVariants.{Done, Faulty, Unchecked}
use Rattle.lg_replay.specs.declared.fault.FolderFault.{FolderFault}
use Rattle.lg_replay.specs.declared.fault.FolderFault.TheVariants.{Unlisted, NoFile, Unread, TooLarge, Memory, Write}

abbrev pub replay_status : ReplayEnd → ℕ
replay_status Done = 0
replay_status Faulty = 1
replay_status Unchecked = 1

-- the line of a run that failed
abbrev pub first_line : FolderFault → List ℕ
first_line (Unlisted kind) = codes "lg: read\n"
first_line NoFile = codes "lg: read\n"
first_line (Unread number kind) = codes "lg: read\n"
first_line (TooLarge number) = codes "lg: read\n"
first_line Memory = run_fault_text run.Memory
first_line (Write fault) = unwritten_text fault.kind

-- why a folder or a file can't be read, by the kind of the error
abbrev pub unread_words : ErrorKind → List ℕ
unread_words error.NotFound = codes "it isn't there"
unread_words error.NotADirectory = codes "it is no folder"
unread_words error.IsADirectory = codes "it is a folder"
unread_words error.PermissionDenied = codes "permission is denied"
unread_words _ = codes "the machine refuses it"

-- file NUMBER of the folder FOLDER, and what there is to say of it
abbrev pub file_line : ℕ → (folder what : List ℕ) → List ℕ
file_line number folder what =
    codes "file " ++ (decimal number ++ (codes " of the folder " ++ (folder ++ what)))

-- what of a folder couldn't be read, and why. There is none if the first line says all.
abbrev pub second_line : (folder : List ℕ) → FolderFault → List ℕ
second_line folder (Unlisted kind) =
    codes "the folder " ++ (folder ++ (codes " can't be listed: " ++ (unread_words kind ++ newline)))
second_line folder NoFile = codes "the folder " ++ (folder ++ codes " has no file of a recording\n")
second_line folder (Unread number kind) =
    file_line number folder (codes " can't be read: " ++ (unread_words kind ++ newline))
second_line folder (TooLarge number) = file_line number folder (codes " has more than 256000000 bytes\n")
second_line folder Memory = []
second_line folder (Write fault) = []
