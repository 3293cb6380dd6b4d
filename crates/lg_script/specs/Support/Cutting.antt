-- The words of a line that are still to be read.
use Rattle.std.specs.Prelude.{ℕ, List, [], Option, Some, None}
use Rattle.std.specs.Borrow.{Bor}
use Rattle.lg_script.specs.Meaning.Words.{parts_of}

-- the parts of the rest of a line, if there is a rest
abbrev pub words_left : Option (Bor (List ℕ)) → List (List ℕ)
words_left None = []
words_left (Some rest) = parts_of rest.now
