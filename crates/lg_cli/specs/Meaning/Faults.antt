-- The line that tells that a command line isn't run.
use Rattle.std.specs.Prelude.{ℕ, List, ◌++◌, codes}
use Rattle.lg_text.specs.Meaning.Lines.{newline}

-- the line for words that aren't UTF-8
abbrev pub foreign_text : List ℕ
foreign_text = codes "error: the command line isn't UTF-8" ++ newline
