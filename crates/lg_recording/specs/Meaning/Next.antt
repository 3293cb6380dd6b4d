-- What reading the next entry of some bytes gives.
use Rattle.std.specs.Prelude.{◌≡◌, ℕ, ◌<◌, List, [], length, Option, Some, None, Result, Ok, Err}
use Rattle.lg_history.specs.Meaning.History.{Entry, entry}
use Rattle.lg_fields.specs.declared.fault.FieldFault.{FieldFault}
use Rattle.lg_recording.specs.declared.recorded.Recorded.{Recorded}
use Rattle.lg_recording.specs.Meaning.Values.{RecordedEntry, with_standstill}
use Rattle.lg_recording.specs.Meaning.Listing.{entry_chunk_scan}

-- the entry that was read, alone, and with how long the clock stood still before it
abbrev pub entry_in : Recorded → Entry
entry_in r = entry r.seat r.event r.reply

abbrev pub recorded_in : Recorded → RecordedEntry
recorded_in r = with_standstill (entry_in r) r.stood_still_ms

-- Nothing if no bytes are left. Else the entry of the chunk that the bytes begin with, behind which the others are
-- left; or the fault of that chunk, and the bytes are left as they are.
abbrev pub GivesNext : List ℕ → List ℕ → Option (Result Recorded FieldFault) → Type 0
GivesNext bytes left None = (bytes ≡ []) × (left ≡ bytes)
GivesNext bytes left (Some (Ok r)) = (0 < length bytes) × (entry_chunk_scan bytes ≡ Ok (recorded_in r, left))
GivesNext bytes left (Some (Err f)) = (0 < length bytes) × (entry_chunk_scan bytes ≡ Err f) × (left ≡ bytes)
