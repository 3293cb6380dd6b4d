-- What the command `version` writes: the version of the program, that of the packets, and how the program was built
-- (this project's choice). The first two are the program's own. What is known of its build stands at the end of its
-- file: the program of a build has a note there, and one that was only tried has none.
use Rattle.std.specs.Prelude.{ℕ, List, ◌++◌, codes, drop, length, take}
use Rattle.std.specs.Prelude.{Option, Some, None, if◌then◌else◌}
use Rattle.std.specs.Str.{bytes_eq}
use Rattle.lg_text.specs.Meaning.Cutting.{before}

-- the version of the program, and those of the packets that it reads and writes
unfoldable pub version_lines : List ℕ
version_lines = codes "version 0.9.0\npackets 1 to 3\n"

-- what is written if there is no note
unfoldable pub unknown_lines : List ℕ
unknown_lines = codes "commit unknown\nkit unknown\nproved unknown: the program has no note of its build\n"

-- the mark with which a note begins
abbrev pub build_mark : List ℕ
build_mark = codes "lg build 1\n"

-- The lines of a note, if the end of a file has one: what stands behind the mark, up to a byte 0.
abbrev pub build_in : List ℕ → Option (List ℕ)
build_in end =
    if bytes_eq (take (length build_mark) end) build_mark
    then Some (before 0 (drop (length build_mark) end))
    else None

abbrev pub build_lines : Option (List ℕ) → List ℕ
build_lines None = unknown_lines
build_lines (Some lines) = lines

-- the whole text, by the end of the program's file
unfoldable pub version_text : List ℕ → List ℕ
version_text end = version_lines ++ build_lines (build_in end)
