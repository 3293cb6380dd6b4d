-- The names of the files of a recording.
use Rattle.std.specs.Prelude.{ℕ, List, take, drop, Option, None, if◌then◌else◌, codes, length, nat_eq}
use Rattle.std.specs.List.{starts_with}
use Rattle.lg_text.specs.Meaning.Numbers.{number_of}

-- The number of the file with this name: ten decimal digits and `.lgr`. None if it is no such name.
abbrev pub number_of_name : List ℕ → Option ℕ
number_of_name name =
    if nat_eq (length name) 14
    then (if starts_with nat_eq (drop 10 name) (codes ".lgr") then number_of (take 10 name) else None)
    else None
