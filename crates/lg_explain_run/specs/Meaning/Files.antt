-- What is written into files of pages.
use Rattle.std.specs.Prelude.{ℕ, List, Result}
use Rattle.std.specs.declared.io.ErrorKind.{ErrorKind}

-- One write: into the file at this path this text was written, in place of what it had, and this is how that went.
pub data PageWrite : Type 0 where
  Wrote : List ℕ → List ℕ → Result (Unit {0}) ErrorKind → PageWrite
