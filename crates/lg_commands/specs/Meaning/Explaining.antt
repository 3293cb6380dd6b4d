-- What of a recording the command `explain` tells, by the texts of its command line.
use Rattle.std.specs.Prelude.{ℕ, Bool, List, Option, Some, None, Result, Ok, Err}
use Rattle.std.specs.Result.{result_ok}
use Rattle.lg_rules.specs.Meaning.Name.{name_of_text}
use Rattle.lg_config.specs.Meaning.Paths.{path_of}
use Rattle.lg_commands.specs.declared.bad_part.BadPart.{BadPart}
use Rattle.lg_commands.specs.declared.bad_part.BadPart.TheVariants.{Folder, Name}
use Rattle.lg_commands.specs.declared.explain.ExplainPart.{ExplainPart}

-- what is told of a recording, or which text is bad: the folder, if both are
abbrev pub explained_by : (folder name : Option (List ℕ)) → (at : ℕ) → (all : Bool) → Result ExplainPart BadPart
explained_by None name at all = Err Folder
explained_by (Some folder) None at all = Err Name
explained_by (Some folder) (Some name) at all =
    Ok record { folder = folder; name = name; at = at; all = all }

-- the same by the texts of both, by the latest moment, and by whether each account is told
abbrev pub explained_of : (folder name : List ℕ) → (at : ℕ) → (all : Bool) → Result ExplainPart BadPart
explained_of folder name at all = explained_by (path_of folder) (result_ok (name_of_text name)) at all
