-- Lists of entries as chunks, one behind the other, and what reading them gives when they end anywhere.
use Rattle.std.specs.Prelude.{ℕ, zero, suc, ◌-◌, nat_lt, ◌==◌, if◌then◌else◌}
use Rattle.std.specs.Prelude.{List, [], ◌∷◌, length, Option, Some, None, Result, Ok, Err}
use Rattle.std.specs.List.{flat_map, AllByRecursion}
use Rattle.lg_fields.specs.declared.fault.FieldFault.{FieldFault}
use Rattle.lg_fields.specs.declared.fault.FieldFault.TheVariants as faults
use Rattle.lg_fields.specs.Meaning.Spelled.{chunk, IsCountedText}
use Rattle.lg_fields.specs.Meaning.Scanned.{◌>>=◌, chunk_scan}
use Rattle.lg_recording.specs.Meaning.Values.{RecordedEntry}
use Rattle.lg_recording.specs.Meaning.Spelling.{spelled_recorded}
use Rattle.lg_recording.specs.Meaning.Fitting.{IsRecordedSpelled}
use Rattle.lg_recording.specs.Meaning.Scanning.{recorded_of}

-- an entry as a chunk, and entries one behind the other
abbrev pub entry_chunk : RecordedEntry → List ℕ
entry_chunk e = chunk (spelled_recorded e)

abbrev pub spelled_entries : List RecordedEntry → List ℕ
spelled_entries entries = flat_map entry_chunk entries

-- an entry that has a spelling, which has fewer than 2^64 bytes
pub record IsRecordable (e : RecordedEntry) : Type 0 where
  pub spelled : IsRecordedSpelled e
  pub counted : IsCountedText (spelled_recorded e)

abbrev pub AreRecordable : List RecordedEntry → Type 0
AreRecordable entries = AllByRecursion IsRecordable entries

-- the entry of the chunk that bytes begin with, and the bytes behind it
unfoldable pub entry_chunk_scan : List ℕ → Result (RecordedEntry × List ℕ) FieldFault
entry_chunk_scan bytes = do
  body ← chunk_scan bytes
  entry ← recorded_of body.0
  Ok (entry, body.1)

-- What bytes hold: the entries up to the first faulty chunk, and its fault if there is one.
pub record ListedEntries : Type 0 where
  pub entries : List RecordedEntry
  pub fault : Option FieldFault

abbrev pub listing : List RecordedEntry → Option FieldFault → ListedEntries
listing entries fault = record { entries = entries; fault = fault }

abbrev pub listed_before : Result (RecordedEntry × List ℕ) FieldFault → (List ℕ → ListedEntries) → ListedEntries
listed_before (Ok x) others = listing (x.0 ∷ (others x.1).entries) (others x.1).fault
listed_before (Err f) others = listing [] (Some f)

-- the same of at most this many chunks
unfoldable pub listed_upto : ℕ → List ℕ → ListedEntries
listed_upto zero bytes = listing [] None
listed_upto (suc n) [] = listing [] None
listed_upto (suc n) (b ∷ bytes) = listed_before (entry_chunk_scan (b ∷ bytes)) (λ rest. listed_upto n rest)

-- a chunk has at least one byte, so there are no more chunks than bytes
abbrev pub entries_scan : List ℕ → ListedEntries
entries_scan bytes = listed_upto (length bytes) bytes

-- Of entries whose bytes end after this many: those whose chunks are there whole, and the fault of the cut, which is
-- none if it is at a chunk's end.
abbrev pub whole_within : ℕ → List RecordedEntry → List RecordedEntry
whole_within n [] = []
whole_within n (e ∷ es) =
    if nat_lt n (length (entry_chunk e)) then [] else e ∷ whole_within (n - length (entry_chunk e)) es

abbrev pub cut_fault : ℕ → List RecordedEntry → Option FieldFault
cut_fault n [] = None
cut_fault n (e ∷ es) =
    if nat_lt n (length (entry_chunk e)) then (if n == 0 then None else Some faults.Short)
    else cut_fault (n - length (entry_chunk e)) es
