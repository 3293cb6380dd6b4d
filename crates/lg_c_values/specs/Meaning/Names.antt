-- A name as C has it: the bytes, and how many of them are the name.
use Rattle.std.specs.Prelude.{ℕ, ◌++◌, List, drop, length, replicate, take, nat_lt, Option, None, if◌then◌else◌}
use Rattle.std.specs.Result.{result_ok}
use Rattle.lg_rules.specs.Meaning.Bounds.{most_name_bytes}
use Rattle.lg_rules.specs.Meaning.Name.{name_of_text}
use Rattle.lg_c_values.specs.declared.name.LgName.{LgName}

-- what C is given for a name: its bytes, and then zeros
abbrev pub c_name : List ℕ → LgName
c_name text = record { bytes = text ++ drop (length text) (replicate most_name_bytes 0); length = length text }

-- what C is given for no name
abbrev pub no_c_name : LgName
no_c_name = record { bytes = replicate most_name_bytes 0; length = 0 }

-- the name that C tells, if the bytes are one
abbrev pub name_from_c : LgName → Option (List ℕ)
name_from_c c = if nat_lt most_name_bytes c.length then None else result_ok (name_of_text (take c.length c.bytes))
