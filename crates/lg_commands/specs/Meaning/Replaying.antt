-- What of a recording the command `replay` tells, by the texts of its command line.
use Rattle.std.specs.Prelude.{◌≡◌, ℕ, List, Option, Some, None, Result, Ok, Err}
use Rattle.std.specs.Option.{option_map}
use Rattle.std.specs.Result.{result_ok}
use Rattle.lg_rules.specs.Meaning.Name.{name_of_text}
use Rattle.lg_text.specs.Meaning.Reporting.{Reported, Reports}
use Rattle.lg_config.specs.Meaning.Paths.{path_of}
use Rattle.lg_commands.specs.Meaning.Faults.{bad_part_text}
use Rattle.lg_commands.specs.declared.bad_part.BadPart.{BadPart}
use Rattle.lg_commands.specs.declared.bad_part.BadPart.TheVariants.{Folder, Name}
use Rattle.lg_commands.specs.declared.replay.RecordingPart.{RecordingPart}

-- the member of which is told, by the text of its name, if one is given; the outer None says that it is no name
abbrev pub only_of : Option (List ℕ) → Option (Option (List ℕ))
only_of None = Some None
only_of (Some text) = option_map (λ name. Some name) (result_ok (name_of_text text))

-- the part of a recording, or which text is bad: the folder, if both are
abbrev pub part_by : Option (List ℕ) → ℕ → ℕ → Option (Option (List ℕ)) → Result RecordingPart BadPart
part_by None from to only = Err Folder
part_by (Some folder) from to None = Err Name
part_by (Some folder) from to (Some only) = Ok record { folder = folder; from = from; to = to; only = only }

-- the same by the texts of both, and by the first and the last moment
abbrev pub part_of : List ℕ → ℕ → ℕ → Option (List ℕ) → Result RecordingPart BadPart
part_of folder from to only = part_by (path_of folder) from to (only_of only)

-- A text is bad, which would say what part of a recording is told. That is reported, as far as the report is taken, and
-- the status is 3.
pub record TellsBadPart
    {Part : Type 0} (reported reports : Reported) (said : Result Part BadPart) (status : ℕ)
    : Type 0 where
  pub bad : BadPart
  pub is : said ≡ Err bad
  pub status_is : status ≡ 3
  pub told : Reports reported reports (bad_part_text bad)
