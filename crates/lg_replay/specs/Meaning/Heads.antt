-- What is told of the head of a file of a recording.
use Rattle.std.specs.Prelude.{ℕ, List, Result, Ok}
use Rattle.lg_fields.specs.declared.fault.FieldFault.{FieldFault}
use Rattle.lg_fields.specs.Meaning.Scanned.{◌>>=◌}
use Rattle.lg_recording.specs.Meaning.Starts.{start_scan}
use Rattle.lg_heads.specs.Meaning.Heads.{HeadValue}
use Rattle.lg_heads.specs.Meaning.Scanning.{head_in}

-- The head of a file, and the bytes behind it; or the first fault. The whole of it is read: it says what was known
-- before the first entry exactly if that isn't the first of the life.
unfoldable pub file_head_scan : List ℕ → Result (HeadValue × List ℕ) FieldFault
file_head_scan bytes = do
  start ← start_scan bytes
  head ← head_in start.0
  Ok (head, start.1)
