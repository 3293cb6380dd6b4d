-- What is told of a file of a recording, and what is known behind it.
use Rattle.std.specs.Prelude.{ℕ, List, [], ◌++◌, Option, Some, None, Result, Ok, Err, codes, decimal}
use Rattle.lg_detector.specs.declared.event.Event.{Event}
use Rattle.lg_fields.specs.declared.fault.FieldFault.{FieldFault}
use Rattle.lg_heads.specs.Meaning.Heads.{HeadValue}
use Rattle.lg_recording.specs.Meaning.Listing.{entries_scan}
use Rattle.lg_recording.specs.Meaning.Values.{RecordedEntry, entries_alone}
use Rattle.lg_text.specs.Meaning.Lines.{newline}
use Rattle.lg_replay.specs.declared.verdict.Verdict.{Verdict}
use Rattle.lg_replay.specs.declared.window.Window.{Window}
use Rattle.lg_replay.specs.Meaning.Entries.{entries_text}
use Rattle.lg_replay.specs.Meaning.Heads.{file_head_scan}
use Rattle.lg_replay.specs.Meaning.Lives.{Life, life_behind, life_from}
use Rattle.lg_replay.specs.Meaning.Verdicts.{verdicts_on}
use Rattle.lg_replay.specs.Meaning.Words.{fault_word_of, unchecked_line}

-- a file of a recording: the number that its name has, and its bytes
pub record RecordingFile : Type 0 where
  pub number : ℕ
  pub bytes : List ℕ

-- What is read of a file: its head, its entries up to the first fault, and that fault. The replay goes by the entries
-- alone, and not by how long the node's clock stood still before them.
pub record FileRead : Type 0 where
  pub head : HeadValue
  pub entries : List RecordedEntry
  pub fault : Option FieldFault

abbrev pub read_behind : Result (HeadValue × List ℕ) FieldFault → Result FileRead FieldFault
read_behind (Ok h) = Ok (record { head = h.0; entries = (entries_scan h.1).entries; fault = (entries_scan h.1).fault })
read_behind (Err fault) = Err fault

abbrev pub read_of : RecordingFile → Result FileRead FieldFault
read_of file = read_behind (file_head_scan file.bytes)

-- The life behind a file. If its head can't be read, it is that before it.
abbrev pub life_over_read : Life → Result FileRead FieldFault → Life
life_over_read life (Ok read) = life_behind (life_from read.head.first life) (entries_alone read.entries)
life_over_read life (Err fault) = life

abbrev pub life_over : Life → RecordingFile → Life
life_over life file = life_over_read life (read_of file)

-- the verdicts on the entries of a file
abbrev pub verdicts_of_read : Life → Result FileRead FieldFault → List Verdict
verdicts_of_read life (Ok read) = verdicts_on (life_from read.head.first life) (entries_alone read.entries)
verdicts_of_read life (Err fault) = []

abbrev pub file_verdicts : Life → RecordingFile → List Verdict
file_verdicts life file = verdicts_of_read life (read_of file)

-- The line of a file, by its number: whose recording it is, the number of its first entry, the moment at which it was
-- begun, and when that was, in milliseconds since 1970.
abbrev pub head_line : ℕ → HeadValue → List ℕ
head_line number head =
    codes "file " ++ decimal number ++ codes " of " ++ head.name ++ codes " first " ++ decimal head.first
    ++ codes " moment " ++ decimal head.now ++ codes " begun " ++ decimal head.wall_ms ++ newline

-- the line of a file whose head can't be read
abbrev pub headless_line : ℕ → FieldFault → List ℕ
headless_line number fault =
    codes "file " ++ decimal number ++ codes " fault " ++ fault_word_of fault ++ newline

-- the line before the entries of a file of whose past some is missing
abbrev pub gap_text : ℕ → Option (List Event) → List ℕ
gap_text first None = unchecked_line first
gap_text first (Some f) = []

-- what is told of a file behind what is known
abbrev pub read_text : Window → ℕ → Life → Result FileRead FieldFault → List ℕ
read_text window number life (Ok read) =
    let from = life_from read.head.first life in
    head_line number read.head ++ gap_text read.head.first from.past
    ++ entries_text window read.head.first from (entries_alone read.entries) read.fault
read_text window number life (Err fault) = headless_line number fault

abbrev pub file_text : Window → Life → RecordingFile → List ℕ
file_text window life file = read_text window file.number life (read_of file)
