-- What matters of entries for the accounts.
use Rattle.std.specs.Prelude.{Bool}
use Rattle.lg_accounts.specs.Meaning.Values.{NoteValue}

-- What matters of an entry for the accounts: whether an episode begins with it, which it does if the member is calm
-- before it, or if it doesn't go on with the entry before it; whether it changed the member's record to suspect, failed
-- or left; whether all events since the opening are known behind it; and what it tells.
pub record EntryTold : Type 0 where
  pub begins : Bool
  pub is_verdict : Bool
  pub is_known : Bool
  pub note : NoteValue
