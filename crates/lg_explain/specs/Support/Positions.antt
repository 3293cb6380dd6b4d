-- What is kept where the next entry stands is what the definitions say of the entries before it.
use Rattle.std.specs.Prelude.{◌≡◌, ℕ, ◌+◌, max, if◌then◌else◌, true, false, List, [], ◌∷◌, ◌++◌}
use Rattle.std.specs.Prelude.{Option, is_some, unwrap_or}
use Rattle.lg_accounts.specs.declared.account.Note.{Note}
use Rattle.lg_detector.specs.declared.event.Event.{Event}
use Rattle.lg_heads.specs.Meaning.Heads.{HeadValue}
use Rattle.lg_recording.specs.Meaning.Values.{RecordedEntry}
use Rattle.lg_notes.specs.Meaning.Watching.{watch_behind}
use Rattle.lg_notes.specs.declared.subject.NoteSubject.{NoteSubject}
use Rattle.lg_notes.specs.declared.watch.Watch.{Watch}
use Rattle.lg_replay.specs.Meaning.Lives.{past_with}
use Rattle.lg_replay.specs.Meaning.Words.{moment_of_event}
use Rattle.lg_replay.specs.Support.Known.{HoldsPast}
use Rattle.lg_explain.specs.Meaning.Places.{FilesRead, PlacedEntry, entry_read, placed, note_subject}
use Rattle.lg_explain.specs.Meaning.Rounds.{end_of_round}
use Rattle.lg_explain.specs.Meaning.Tellings.{all_stood, greatest_so_far, note_of, round_ends, told_behind, watch_after}
use Rattle.lg_accounts.specs.Meaning.Values.{note_value}
use Rattle.lg_explain.specs.Support.Ends.{KeepsEnds}
use Rattle.lg_explain.specs.Support.Standstills.{KeepsStood}
use Rattle.lg_explain.specs.Meaning.Standstills.{stood_at}
use Rattle.lg_explain.specs.declared.standstills.StoodStill.{StoodStill}
use Rattle.lg_explain.specs.Support.Episodes.{told_value}
use Rattle.lg_explain.specs.declared.position.Position.{Position}
use Rattle.lg_explain.specs.declared.rounds.RoundEnd.{RoundEnd}
use Rattle.lg_explain.specs.declared.gathered.Told.{Told}

-- What is before the next entry: the watch of the member, the greatest moment, the ends of rounds, and for how long the
-- clock stood still.
abbrev pub watch_next : Option Watch → List PlacedEntry → Watch
watch_next begun entries = unwrap_or begun (watch_after entries)

abbrev pub greatest_next : Option Watch → List PlacedEntry → ℕ
greatest_next begun entries = if is_some begun then 0 else greatest_so_far entries

abbrev pub ends_next : Option Watch → List PlacedEntry → List RoundEnd
ends_next begun entries = if is_some begun then [] else round_ends entries

abbrev pub stood_next : Option Watch → List PlacedEntry → List StoodStill
stood_next begun entries = if is_some begun then [] else all_stood entries

-- What is kept is that behind these entries, if this watch doesn't begin there, or else that with this watch.
pub record IsHere (p : Position) (begun : Option Watch) (entries : List PlacedEntry) : Type 0 where
  pub begins : p.begins ≡ is_some begun
  pub watch : p.watch ≡ watch_next begun entries
  pub greatest : p.greatest ≡ greatest_next begun entries
  pub ends : KeepsEnds p.ends.items p.greatest (ends_next begun entries)
  pub stood : KeepsStood p.stood.items p.greatest (stood_next begun entries)

pub record IsAt (p : Position) (r : FilesRead) : Type 0 where
  pub past : HoldsPast p.known r.past
  pub number : p.number ≡ r.number
  pub here : IsHere p r.begun r.entries

-- It doesn't go on with the entry before it, and this watch begins there.
pub record IsBegun (p : Position) (there : Watch) : Type 0 where
  pub begins : p.begins ≡ true
  pub watch : p.watch ≡ there
  pub greatest : p.greatest ≡ 0
  pub ends : p.ends.items ≡ []
  pub stood : p.stood.items ≡ []

abbrev pub KeepsKnown : (old new : Position) → Type 0
KeepsKnown old new = new.known ≡ old.known

-- All but the detector stays.
pub record KeepsRest (old new : Position) : Type 0 where
  pub number : new.number ≡ old.number
  pub begins : new.begins ≡ old.begins
  pub watch : new.watch ≡ old.watch
  pub greatest : new.greatest ≡ old.greatest
  pub ends : new.ends.items ≡ old.ends.items
  pub stood : new.stood.items ≡ old.stood.items

-- An entry was noted, and its event happened to the detector.
pub record HasNoted
    (old new : Position) (subject : NoteSubject) (head : HeadValue) (x : RecordedEntry) (note : Note)
    : Type 0 where
  pub past : (past : Option (List Event)) → HoldsPast old.known past
      → HoldsPast new.known (past_with past x.entry.event)
  pub told : (name : List ℕ) (r : FilesRead) → subject ≡ note_subject name head → IsAt old r
      → note_value note ≡ note_of (placed name head r x) r.entries

-- An entry was passed, whose event had happened to the detector.
pub record HasPassed (old new : Position) (subject : NoteSubject) (x : RecordedEntry) : Type 0 where
  pub known : new.known ≡ old.known
  pub number : new.number ≡ old.number + 1
  pub begins : new.begins ≡ false
  pub greatest : new.greatest ≡ max old.greatest (moment_of_event x.entry.event)
  pub watch : new.watch ≡ watch_behind subject new.greatest old.watch x.entry.event x.entry.reply
  pub ends : (all : List RoundEnd) → KeepsEnds old.ends.items old.greatest all
      → KeepsEnds new.ends.items new.greatest (end_of_round new.greatest x.entry.reply ++ all)
  pub stood : (all : List StoodStill) → KeepsStood old.stood.items old.greatest all
      → KeepsStood new.stood.items new.greatest (stood_at new.greatest x.stood_still_ms ∷ all)

-- It went on behind an entry, of which this is told.
pub record HasFollowed
    (old new : Position) (name : List ℕ) (head : HeadValue) (x : RecordedEntry) (told : Told)
    : Type 0 where
  pub at : (r : FilesRead) → IsAt old r → IsAt new (entry_read name head r x)
  pub is : (r : FilesRead) → IsAt old r → told_value told ≡ told_behind (placed name head r x) r.entries
