-- What is told, in a line or in two.
use Rattle.std.specs.Prelude.{◌≡◌, ◌⊎◌, ℕ, List, [], Option, Some, None}
use Rattle.std.specs.declared.io.ErrorKind.{ErrorKind}
use Rattle.lg_text.specs.Meaning.Reporting.{Reported, Reports}
use Rattle.lg_config.specs.declared.fault.FileFault.{FileFault}
use Rattle.lg_config.specs.Meaning.Options.{Options}
use Rattle.lg_config.specs.Meaning.Reasons.{IsReason}
use Rattle.lg_run.specs.declared.file.NoBytes.{NoBytes}
use Rattle.lg_run.specs.declared.file.NoBytes.TheVariants as none
use Rattle.lg_run.specs.declared.told.Told.{Told}
use Rattle.lg_run.specs.declared.told.Told.TheVariants.{Config, Memory, Read}
use Rattle.lg_run.specs.Meaning.Telling.{line_of, status_told}
use Rattle.lg_run.specs.Meaning.Words.{read_reason}

-- Two texts are reported, one after the other.
pub record ReportsBoth (reported reports : Reported) (first second : List ℕ) : Type 0 where
  pub between : Reported
  pub first_taken : Reports reported between first
  pub second_taken : Reports between reports second

-- A fault of a file and options is told in two lines. If memory for the second is refused, there is none.
pub record TellsFault
    (reported reports : Reported) (options : Options) (bytes : List ℕ) (fault : FileFault) (status : ℕ)
    : Type 0 where
  pub second : List ℕ
  pub reason : (second ≡ []) ⊎ IsReason fault options bytes second
  pub lines : ReportsBoth reported reports (line_of (Config fault)) second
  pub is : status ≡ status_told (Config fault)

-- This is told, in one text: a line, or two if it is of a text that couldn't be written.
pub record TellsLine (reported reports : Reported) (told : Told) (status : ℕ) : Type 0 where
  pub line : Reports reported reports (line_of told)
  pub is : status ≡ status_told told

-- Nothing is written, and this is told.
abbrev pub TellsAlone :
    {W : Type 0} → (before after : W) (reported reports : Reported) (told : Told) (status : ℕ) → Type 0
TellsAlone before after reported reports told status = (after ≡ before) × TellsLine reported reports told status

-- A file that can't be read is told in two lines: the second names it, and the system's reason. If memory for the
-- second is refused, there is none.
pub record TellsUnread
    (reported reports : Reported) (file : List ℕ) (kind : ErrorKind) (status : ℕ) : Type 0 where
  pub second : List ℕ
  pub reason : (second ≡ []) ⊎ (second ≡ read_reason file kind)
  pub lines : ReportsBoth reported reports (line_of Read) second
  pub is : status ≡ status_told Read

-- It is told why a file gives no bytes.
abbrev pub TellsNoBytes : (reported reports : Reported) (file : List ℕ) → NoBytes → (status : ℕ) → Type 0
TellsNoBytes reported reports file none.Memory status = TellsLine reported reports Memory status
TellsNoBytes reported reports file (none.Read kind) status = TellsUnread reported reports file kind status

-- It is told why there are no bytes to read: the file that is named gives none, or memory was refused.
abbrev pub LacksBytes : Option (List ℕ) → (reported reports : Reported) (status : ℕ) → Type 0
LacksBytes (Some file) reported reports status = (none : NoBytes) × TellsNoBytes reported reports file none status
LacksBytes None reported reports status = TellsLine reported reports Memory status

-- The bytes are those of the file that is named. What a file holds no contract can say. Without a file there are none.
abbrev pub AreBytesOf : Option (List ℕ) → List ℕ → Type 0
AreBytesOf (Some file) bytes = Unit {0}
AreBytesOf None bytes = bytes ≡ []
