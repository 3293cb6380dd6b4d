-- The lines that tell why a command ends, except those of memory, reading and writing.
use Rattle.std.specs.Prelude.{ℕ, List, ◌++◌, codes}
use Rattle.lg_text.specs.Meaning.Lines.{newline}
use Rattle.lg_commands.specs.declared.bad_part.BadPart.{BadPart}
use Rattle.lg_commands.specs.declared.bad_part.BadPart.TheVariants.{Folder, Name}
use Rattle.lg_commands.specs.declared.order.BadList.{BadList}
use Rattle.lg_commands.specs.declared.order.BadList.TheVariants.{Names, Words}

-- the line that reports a bad list
abbrev pub bad_list_text : BadList → List ℕ
bad_list_text Names = codes "lg: bad names" ++ newline
bad_list_text Words = codes "lg: bad words" ++ newline

-- the line that reports a bad text of `replay` or `explain`
abbrev pub bad_part_text : BadPart → List ℕ
bad_part_text Folder = codes "lg: bad folder" ++ newline
bad_part_text Name = codes "lg: bad names" ++ newline
