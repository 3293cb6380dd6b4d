-- Which entries the files of a recording have, and where each stands.
use Rattle.std.specs.Prelude.{ℕ, ◌+◌, ◌-◌, ◌^◌, min, ◌==◌, if◌then◌else◌, Bool, false, ◌&&◌}
use Rattle.std.specs.Prelude.{List, [], ◌∷◌, Option, Some, None, Result, Ok, Err}
use Rattle.std.specs.List.{list_any}
use Rattle.lg_rules.specs.declared.claim.Claim.{Claim}
use Rattle.lg_detector.specs.declared.event.Event.{Event}
use Rattle.lg_history.specs.Meaning.History.{Entry}
use Rattle.lg_fields.specs.declared.fault.FieldFault.{FieldFault}
use Rattle.lg_heads.specs.Meaning.Heads.{BeforeValue, HeadValue}
use Rattle.lg_recording.specs.Meaning.Values.{RecordedEntry}
use Rattle.lg_notes.specs.Meaning.About.{is_about, is_suspect_record}
use Rattle.lg_notes.specs.declared.subject.NoteSubject.{NoteSubject}
use Rattle.lg_notes.specs.declared.watch.Watch.{Watch}
use Rattle.lg_replay.specs.Meaning.Files.{FileRead, read_behind}
use Rattle.lg_replay.specs.Meaning.Heads.{file_head_scan}
use Rattle.lg_replay.specs.Meaning.Lives.{past_to, past_with}
use Rattle.lg_replay.specs.Meaning.Words.{moment_of_event}

-- An entry in its place: its number in its life, the wall time of its moment, the member that is asked for with the
-- node, and the events before it since the opening, if all of them are known; and for how many milliseconds the clock
-- stood still, as the entry says. If it doesn't go on with the entry before it, since its life begins with it or some
-- entries before it are missing, it has the watch of the member that begins there.
pub record PlacedEntry : Type 0 where
  pub number : ℕ
  pub wall_ms : ℕ
  pub subject : NoteSubject
  pub past : Option (List Event)
  pub begun : Option Watch
  pub entry : Entry
  pub stood_still_ms : ℕ

-- What was read of some files: the entries, the latest first, and what one more would have of the same: its number,
-- the events before it, and the watch that begins there, if one does.
pub record FilesRead : Type 0 where
  pub entries : List PlacedEntry
  pub number : ℕ
  pub past : Option (List Event)
  pub begun : Option Watch

-- nothing is known before the first file
abbrev pub nothing_read : FilesRead
nothing_read = record { entries = []; number = 0; past = None; begun = None }

-- a member that is neither suspected nor probed
abbrev pub calm_watch : Watch
calm_watch = record { is_suspected = false; probe = None }

-- whether a record is of a member and says that it is suspected
abbrev pub is_suspect_row : List ℕ → Claim → Bool
is_suspect_row name row = is_about name row && is_suspect_record row

-- The watch of a member by what a file's head says of what was known before the file: whether it was suspected.
abbrev pub watch_of_head : List ℕ → Option BeforeValue → Watch
watch_of_head name None = calm_watch
watch_of_head name (Some before) =
    record { is_suspected = list_any (is_suspect_row name) before.table; probe = None }

-- The events before a file whose first entry has this number, behind those that are known: none with the number 0,
-- with which a life begins.
abbrev pub past_from : ℕ → Option (List Event) → Option (List Event)
past_from first past = if first == 0 then Some [] else past_to first past

-- The watch that begins with a file, behind what was read. With the number 0 a life begins, in which nothing has
-- happened to the member. A file whose first entry has the number of the next one goes on with those before it. Before
-- any other some entries are missing.
abbrev pub begun_from : List ℕ → HeadValue → FilesRead → Option Watch
begun_from name head r =
    if head.first == 0 then Some calm_watch
    else if head.first == r.number then r.begun
    else Some (watch_of_head name head.before)

-- what was read, with the head of one file more
abbrev pub head_read : List ℕ → HeadValue → FilesRead → FilesRead
head_read name head r = record {
  entries = r.entries;
  number = head.first;
  past = past_from head.first r.past;
  begun = begun_from name head r;
}

-- The wall time of a moment, in milliseconds: that at which the file was begun, and as much later as the moment is
-- later than the node's clock was then, or as much earlier; from 0 to the greatest number of 64 bits.
abbrev pub wall_of : HeadValue → ℕ → ℕ
wall_of head moment = min (head.wall_ms + moment - head.now) (2 ^ 64 - 1)

-- the member that is asked for, the node, and the node's group
abbrev pub note_subject : List ℕ → HeadValue → NoteSubject
note_subject name head = record { name = name; me = head.name; group = head.config.group }

-- an entry behind what was read, in its place
abbrev pub placed : List ℕ → HeadValue → FilesRead → RecordedEntry → PlacedEntry
placed name head r x = record {
  number = r.number;
  wall_ms = wall_of head (moment_of_event x.entry.event);
  subject = note_subject name head;
  past = r.past;
  begun = r.begun;
  entry = x.entry;
  stood_still_ms = x.stood_still_ms;
}

-- what was read, with one entry more
abbrev pub entry_read : List ℕ → HeadValue → FilesRead → RecordedEntry → FilesRead
entry_read name head r x = record {
  entries = placed name head r x ∷ r.entries;
  number = r.number + 1;
  past = past_with r.past x.entry.event;
  begun = None;
}

abbrev pub entries_read : List ℕ → HeadValue → FilesRead → List RecordedEntry → FilesRead
entries_read name head r [] = r
entries_read name head r (x ∷ xs) = entries_read name head (entry_read name head r x) xs

-- What was read, with one file more: its entries up to the first fault. A file whose head can't be read tells nothing.
abbrev pub with_read : List ℕ → FilesRead → Result FileRead FieldFault → FilesRead
with_read name r (Ok read) = entries_read name read.head (head_read name read.head r) read.entries
with_read name r (Err fault) = r

abbrev pub file_read : List ℕ → FilesRead → List ℕ → FilesRead
file_read name r bytes = with_read name r (read_behind (file_head_scan bytes))

-- what is read of some files, one after another, if this member is asked for
abbrev pub files_read_behind : List ℕ → FilesRead → List (List ℕ) → FilesRead
files_read_behind name r [] = r
files_read_behind name r (bytes ∷ files) = files_read_behind name (file_read name r bytes) files

abbrev pub recording_read : List ℕ → List (List ℕ) → FilesRead
recording_read name files = files_read_behind name nothing_read files
