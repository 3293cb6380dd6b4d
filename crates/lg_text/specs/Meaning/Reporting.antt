-- What a stream takes of the lines that are reported on it, such as standard error.
use Rattle.std.specs.Prelude.{◌≡◌, ℕ, ◌-◌, ◌≤◌, List, length, Option, Some}
use Rattle.std.specs.Io.KnownBytes.{Appends}
use Rattle.lg_text.specs.Meaning.Running.{AppendsFront}

-- What contracts see of such a stream: the bytes that it has taken, if it tells them, and how many more it takes for
-- certain, if that is known.
pub record Reported : Type 0 where
  pub contents : Option (List ℕ)
  pub room : Option ℕ

-- A text is reported: a beginning of it is taken. If the stream is known to have room for all of it, all of it is
-- taken, and the room is less by its length.
pub record Reports (before after : Reported) (text : List ℕ) : Type 0 where
  pub front : AppendsFront before.contents after.contents text
  pub whole : (room : ℕ) → before.room ≡ Some room → length text ≤ room
      → Appends before.contents after.contents text × (after.room ≡ Some (room - length text))
