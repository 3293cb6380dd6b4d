-- What reading the body of a head from left to right gives: its value, or the first fault that is met. By the laws of
-- src/laws.rt what is read is what Heads.antt says, and is spelled so.
use Rattle.std.specs.Prelude.{ℕ, ◌==◌, if◌then◌else◌, Bool, true, false}
use Rattle.std.specs.Prelude.{List, [], ◌∷◌, Option, Some, None, Result, Ok, Err}
use Rattle.lg_rules.specs.declared.claim.Claim.{Claim}
use Rattle.lg_fields.specs.declared.fault.FieldFault.{FieldFault}
use Rattle.lg_fields.specs.declared.fault.FieldFault.TheVariants as faults
use Rattle.lg_fields.specs.Meaning.Scanned.{◌>>=◌, config_scan, count_scan, few_scan, flag_scan, incarnation_scan}
use Rattle.lg_fields.specs.Meaning.Scanned.{label_scan, moment_scan, records_scan, text_scan}
use Rattle.lg_detector.specs.declared.standing.Standing.{Standing}
use Rattle.lg_recording.specs.Meaning.Scanning.{each_scan, whole_of}
use Rattle.lg_heads.specs.Meaning.Heads.{BeforeValue, HeadValue}
use Rattle.lg_heads.specs.Meaning.Fitting.{most_rows}

-- ---- a table

-- the record that some bytes have to hold alone
abbrev pub only_row : List Claim → List ℕ → Result (Claim × List ℕ) FieldFault
only_row [] bytes = Err faults.Count
only_row (row ∷ []) bytes = Ok (row, bytes)
only_row (row ∷ other ∷ others) bytes = Err faults.Count

unfoldable pub row_scan : List ℕ → Result (Claim × List ℕ) FieldFault
row_scan bytes = do
  rows ← records_scan bytes
  only_row rows.0 rows.1

-- this many records, of which there has to be one at least
abbrev pub rows_scan : ℕ → List ℕ → Result (List Claim × List ℕ) FieldFault
rows_scan count bytes = if count == 0 then Err faults.Count else each_scan row_scan count bytes

unfoldable pub table_scan : List ℕ → Result (List Claim × List ℕ) FieldFault
table_scan bytes = do
  count ← few_scan most_rows bytes
  rows_scan count.0 count.1

-- ---- what was known before

unfoldable pub own_standing_scan : List ℕ → Result (Standing × List ℕ) FieldFault
own_standing_scan bytes = do
  score ← count_scan bytes
  number ← incarnation_scan score.1
  ousted ← flag_scan number.1
  Ok (record { score = score.0; number = number.0; ousted = ousted.0 }, ousted.1)

unfoldable pub known_before_scan : List ℕ → Result (BeforeValue × List ℕ) FieldFault
known_before_scan bytes = do
  standing ← own_standing_scan bytes
  table ← table_scan standing.1
  Ok (record { standing = standing.0; table = table.0 }, table.1)

abbrev pub some_scan : List ℕ → Result (Option BeforeValue × List ℕ) FieldFault
some_scan bytes = do
  known ← known_before_scan bytes
  Ok (Some known.0, known.1)

-- behind the flag: something was known exactly if entries were made before
abbrev pub flagged_scan : Bool → ℕ → List ℕ → Result (Option BeforeValue × List ℕ) FieldFault
flagged_scan false first bytes = if first == 0 then Ok (None, bytes) else Err faults.Count
flagged_scan true first bytes = if first == 0 then Err faults.Count else some_scan bytes

unfoldable pub before_scan : ℕ → List ℕ → Result (Option BeforeValue × List ℕ) FieldFault
before_scan first bytes = do
  flag ← flag_scan bytes
  flagged_scan flag.0 first flag.1

-- ---- the whole

unfoldable pub head_scan : List ℕ → Result (HeadValue × List ℕ) FieldFault
head_scan bytes = do
  name ← label_scan bytes
  config ← config_scan name.1
  text ← text_scan config.1
  program ← text_scan text.1
  wall_ms ← count_scan program.1
  now ← moment_scan wall_ms.1
  first ← count_scan now.1
  before ← before_scan first.0 first.1
  Ok (
    record {
      name = name.0;
      config = config.0;
      text = text.0;
      program = program.0;
      wall_ms = wall_ms.0;
      now = now.0;
      first = first.0;
      before = before.0;
    },
    before.1,
  )

-- the head that a body is
unfoldable pub head_in : List ℕ → Result HeadValue FieldFault
head_in body = do
  head ← head_scan body
  whole_of head
