-- How a configuration is checked: what is written, and what is told.
use Rattle.std.specs.Prelude.{◌≡◌, ◌⊎◌, ℕ, List, Option, Result, Ok, Err}
use Rattle.std.specs.Io.KnownBytes.{Appends}
use Rattle.lg_text.specs.Meaning.Reporting.{Reported}
use Rattle.lg_text.specs.Meaning.Running.{AppendsFront}
use Rattle.lg_text.specs.declared.fault.RunFault.{RunFault}
use Rattle.lg_text.specs.declared.fault.RunFault.TheVariants as fault
use Rattle.lg_config.specs.declared.fault.ReadFault.{ReadFault}
use Rattle.lg_config.specs.declared.fault.ReadFault.TheVariants.{NoMemory, File}
use Rattle.lg_config.specs.declared.node.NodeConfig.{NodeConfig}
use Rattle.lg_config.specs.Meaning.Answer.{IsAnswer}
use Rattle.lg_config.specs.Meaning.Options.{Options, SourceValue}
use Rattle.lg_check.specs.Meaning.Checks.{check_text}
use Rattle.lg_run.specs.declared.told.Told.{Told}
use Rattle.lg_run.specs.declared.told.Told.TheVariants.{Done, Memory}
use Rattle.lg_run.specs.Meaning.Reporting.{AreBytesOf, LacksBytes, TellsAlone, TellsFault, TellsLine}
use Rattle.lg_run.specs.Meaning.Telling.{fault_told}

-- A text is written whole. If the writing failed, a beginning of it may have been written. If memory for it was
-- refused, nothing was.
abbrev pub WritesText :
    {W : Type 0} → (before after : W) (held holds : Option (List ℕ)) (text : List ℕ) → Result (Unit {0}) RunFault
    → Type 0
WritesText before after held holds text (Ok done) = Appends held holds text
WritesText before after held holds text (Err fault.Memory) = after ≡ before
WritesText before after held holds text (Err (fault.Read unread)) = ⊥
WritesText before after held holds text (Err (fault.Write unwritten)) = AppendsFront held holds text

-- what is told of a text that was to be written
abbrev pub check_told : Result (Unit {0}) RunFault → Told
check_told (Ok done) = Done
check_told (Err fault) = fault_told fault

-- What a configuration means is written, and how that went is told.
pub record ChecksNode
    {W : Type 0} (before after : W) (held holds : Option (List ℕ)) (reported reports : Reported) (n : NodeConfig)
    (status : ℕ)
    : Type 0 where
  pub written : Result (Unit {0}) RunFault
  pub text : WritesText before after held holds (check_text n) written
  pub told : TellsLine reported reports (check_told written) status

-- A configuration that was read is checked. If none was read, the reason is told, and nothing is written.
abbrev pub ChecksConfig :
    {W : Type 0} → (before after : W) (held holds : Option (List ℕ)) (reported reports : Reported) (options : Options)
    (bytes : List ℕ) → Result NodeConfig ReadFault → (status : ℕ) → Type 0
ChecksConfig before after held holds reported reports options bytes (Ok n) status =
    ChecksNode before after held holds reported reports n status
ChecksConfig before after held holds reported reports options bytes (Err NoMemory) status =
    TellsAlone before after reported reports Memory status
ChecksConfig before after held holds reported reports options bytes (Err (File fault)) status =
    (after ≡ before) × TellsFault reported reports options bytes fault status

-- The bytes of a file and options are read as a configuration, and the configuration is checked.
pub record ChecksBytes
    {W : Type 0} (before after : W) (held holds : Option (List ℕ)) (reported reports : Reported) (options : Options)
    (bytes : List ℕ) (status : ℕ)
    : Type 0 where
  pub answer : Result NodeConfig ReadFault
  pub read : IsAnswer options bytes answer
  pub checks : ChecksConfig before after held holds reported reports options bytes answer status

-- There are some bytes of the file that is named, or none if no file is, and these are checked with options. Or it is
-- told why there are no bytes to read, and then nothing is written.
abbrev pub ChecksSource :
    {W : Type 0} → (before after : W) (held holds : Option (List ℕ)) (reported reports : Reported)
    (source : SourceValue) (status : ℕ) → Type 0
ChecksSource before after held holds reported reports source status =
    ((after ≡ before) × LacksBytes source.file reported reports status)
    ⊎ ((bytes : List ℕ) × AreBytesOf source.file bytes
    × ChecksBytes before after held holds reported reports source.options bytes status)
