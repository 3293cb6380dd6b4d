-- What contracts see of accounts and of their notes.
use Rattle.std.specs.Prelude.{ℕ, Bool, List, Option, map}
use Rattle.lg_accounts.specs.declared.account.Account.{Account}
use Rattle.lg_accounts.specs.declared.account.Note.{Note}
use Rattle.lg_accounts.specs.declared.step.NoteStep.{NoteStep}

-- What an entry tells of a member: its number in its life, its moment, the wall time of that, the sender of the packet
-- that was heard, if one was, and the things that it tells.
pub record NoteValue : Type 0 where
  pub entry : ℕ
  pub moment : ℕ
  pub wall_ms : ℕ
  pub teller : Option (List ℕ)
  pub steps : List NoteStep

-- what the program's type holds
abbrev pub note_value : Note → NoteValue
note_value note =
    record {
      entry = note.entry;
      moment = note.moment;
      wall_ms = note.wall_ms;
      teller = note.teller;
      steps = note.steps.items;
    }

-- an account: the entries that tell something, the earliest first, and whether all events since the opening are known
-- where it ends
pub record AccountValue : Type 0 where
  pub notes : List NoteValue
  pub is_known : Bool

-- what the program's type holds
abbrev pub account_value : Account → AccountValue
account_value account = record { notes = map note_value account.notes.items; is_known = account.is_known }
