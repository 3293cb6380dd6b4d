-- What becomes of a command line that isn't run.
use Rattle.std.specs.Prelude.{◌≡◌, ◌≢◌, ◌⊎◌, ℕ, List, []}
use Rattle.clap.specs.Kinds.{Kinds}
use Rattle.clap.specs.Walk.{Text}
use Rattle.lg_text.specs.Meaning.Faults.{run_fault_text, unwritten_text}
use Rattle.lg_text.specs.Meaning.Reporting.{Reported, Reports}
use Rattle.std.specs.declared.io.ErrorKind.{ErrorKind}
use Rattle.lg_text.specs.declared.fault.RunFault.TheVariants.{Memory}
use Rattle.lg_command_line.specs.Meaning.Commands.{line_faults, RefusesLine}

-- Memory was refused for reading the command line. That is reported, as far as the report is taken. Nothing is
-- written, and the status is 1.
pub record LacksMemory {W : Type 0} (before after : W) (reported reports : Reported) (status : ℕ) : Type 0
  where
    pub is : status ≡ 1
    pub told : Reports reported reports (run_fault_text Memory)
    pub unwritten : after ≡ before

-- It is reported that standard output couldn't be written, for some reason, as far as the report is taken.
pub record ReportsUnwritten (reported reports : Reported) : Type 0 where
  pub kind : ErrorKind
  pub lines : Reports reported reports (unwritten_text kind)

-- A command line that isn't taken is refused by one of its faults, or asks for help or for the version. A refusal
-- writes nothing, and help and the version report nothing. Only these can fail, if they aren't taken whole; that is
-- reported, as far as the report is taken.
pub record LeavesLine
    {W : Type 0} (before after : W) (reported reports : Reported) (faults : Kinds) (status : ℕ)
    : Type 0 where
  pub refused : status ≢ 1 → RefusesLine faults status
  pub unwritten : status ≡ 2 → after ≡ before
  pub unreported : status ≡ 0 → reports ≡ reported
  pub helped : status ≡ 1 → RefusesLine faults 0
  pub told : status ≡ 1 → ReportsUnwritten reported reports

-- a command line isn't run: it isn't taken, or memory was refused for reading it
abbrev pub IsLeft :
    {W : Type 0} → (before after : W) (reported reports : Reported) → List Text → (status : ℕ) → Type 0
IsLeft before after reported reports line status =
    ((line_faults line ≢ []) × LeavesLine before after reported reports (line_faults line) status)
    ⊎ LacksMemory before after reported reports status
