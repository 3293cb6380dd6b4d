-- What is taken from a reader.
use Rattle.std.specs.Prelude.{◌≡◌, ℕ, List, ◌++◌, Option}
use Rattle.std.specs.Io.KnownBytes.{Consumes}

-- a reader gives some bytes, and they are appended to those that were read before
pub record Grows (old new : Option (List ℕ)) (before after : List ℕ) : Type 0 where
  pub bytes : List ℕ
  pub taken : Consumes old new bytes
  pub grown : after ≡ before ++ bytes
