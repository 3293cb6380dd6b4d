-- Which entries the notes of accounts are of.
use Rattle.std.specs.Prelude.{◌≡◌, List, ◌∷◌, ◌++◌}
use Rattle.std.specs.List.{AllByRecursion}
use Rattle.lg_accounts.specs.Meaning.Values.{AccountValue, NoteValue}
use Rattle.lg_explain.specs.Meaning.Places.{PlacedEntry}
use Rattle.lg_explain.specs.Meaning.Tellings.{note_of}

-- A note is what one of these entries tells behind those before it. So its number, its moment and its wall time are
-- those of that entry. The entries have the latest first.
pub record IsNoteOf (entries : List PlacedEntry) (note : NoteValue) : Type 0 where
  pub later : List PlacedEntry
  pub entry : PlacedEntry
  pub past : List PlacedEntry
  pub are : entries ≡ later ++ entry ∷ past
  pub is : note ≡ note_of entry past

-- so is each note of an account
abbrev pub HasNotesOf : List PlacedEntry → AccountValue → Type 0
HasNotesOf entries account = AllByRecursion (IsNoteOf entries) account.notes
