-- A replayer is behind some files, and how it goes through the entries of one.
use Rattle.std.specs.Prelude.{◌≡◌, ℕ, ◌==◌, Bool, false, ◌&&◌, ◌||◌, not, List}
use Rattle.std.specs.Prelude.{[], ◌∷◌, ◌++◌, Option, Some, None, Result, Ok, Err}
use Rattle.lg_fields.specs.declared.fault.FieldFault.{FieldFault}
use Rattle.lg_history.specs.Meaning.History.{Entry}
use Rattle.lg_recording.specs.Meaning.Listing.{entries_scan, listing}
use Rattle.lg_recording.specs.Meaning.Next.{recorded_in}
use Rattle.lg_recording.specs.Meaning.Values.{entries_alone}
use Rattle.lg_recording.specs.declared.recorded.Recorded.{Recorded}
use Rattle.lg_replay.specs.declared.replayer.Replayer.{Replayer}
use Rattle.lg_replay.specs.declared.verdict.Verdict.{Verdict}
use Rattle.lg_replay.specs.declared.window.Window.{Window}
use Rattle.lg_replay.specs.Meaning.Entries.{entries_text, entry_text}
use Rattle.lg_replay.specs.Meaning.Files.{FileRead, RecordingFile, file_text, life_over_read, read_of, read_text}
use Rattle.lg_replay.specs.Meaning.Files.{verdicts_of_read}
use Rattle.lg_replay.specs.Meaning.Lives.{Life, life_behind, life_with, unknown_life}
use Rattle.lg_replay.specs.Meaning.Replays.{all_verdicts, any_amiss, breaks_off, fault_of_read, is_broken}
use Rattle.lg_replay.specs.Meaning.Replays.{lives_over}
use Rattle.lg_replay.specs.Meaning.Verdicts.{verdict_on, verdicts_on}
use Rattle.lg_replay.specs.Support.Counted.{HasCounts}
use Rattle.lg_replay.specs.Support.Known.{IsKnown}

-- whether the last of some files breaks off
abbrev pub ends_torn : List RecordingFile → Bool
ends_torn [] = false
ends_torn (x ∷ []) = breaks_off (fault_of_read (read_of x))
ends_torn (x ∷ y ∷ ys) = ends_torn (y ∷ ys)

-- A replayer has come so far in a life, with these verdicts.
pub record HasCome (r : Replayer) (life : Life) (verdicts : List Verdict) : Type 0 where
  pub known : IsKnown r.known life
  pub counts : HasCounts r.counts verdicts

-- A replayer is behind these files.
pub record IsReplayed (r : Replayer) (files : List RecordingFile) : Type 0 where
  pub come : HasCome r (lives_over unknown_life files) (all_verdicts unknown_life files)
  pub amiss : r.is_amiss ≡ any_amiss files
  pub torn : r.is_torn ≡ ends_torn files

-- What reading the next entry gives: nothing if none is left; else the first of those that are left; or the fault at
-- which they end.
abbrev pub ReadsNext : List ℕ → List ℕ → Result (Option Recorded) FieldFault → Type 0
ReadsNext bytes left (Ok None) = entries_scan bytes ≡ listing [] None
ReadsNext bytes left (Ok (Some x)) =
    entries_scan bytes ≡ listing (recorded_in x ∷ (entries_scan left).entries) (entries_scan left).fault
ReadsNext bytes left (Err fault) = entries_scan bytes ≡ listing [] (Some fault)

-- What a replayer has noted of the files themselves stays.
pub record KeepsNotes (old new : Replayer) : Type 0 where
  pub amiss : new.is_amiss ≡ old.is_amiss
  pub torn : new.is_torn ≡ old.is_torn

-- A file was noted, by whether a life begins with it, and by its fault.
pub record Noted (old new : Replayer) (begins : Bool) (fault : Option FieldFault) : Type 0 where
  pub amiss : new.is_amiss ≡ (old.is_amiss || (old.is_torn && not begins) || is_broken fault)
  pub torn : new.is_torn ≡ breaks_off fault

-- A replayer went through an entry, and what is told of it was appended to a text.
pub record RanEntry (new : Replayer) (text longer : List ℕ) (window : Window) (number : ℕ) (x : Entry)
    (life : Life) (verdicts : List Verdict) : Type 0 where
  pub come : HasCome new (life_with life x) (verdicts ++ verdict_on life x ∷ [])
  pub writes : longer ≡ text ++ entry_text window number life x

-- A replayer went through the entries that some bytes hold, and what is told of them was appended to a text.
pub record RanEntries (new : Replayer) (text longer : List ℕ) (window : Window) (number : ℕ) (bytes : List ℕ)
    (life : Life) (verdicts : List Verdict) : Type 0 where
  pub come : HasCome new (life_behind life (entries_alone (entries_scan bytes).entries))
      (verdicts ++ verdicts_on life (entries_alone (entries_scan bytes).entries))
  pub writes : longer
      ≡ text ++ entries_text window number life (entries_alone (entries_scan bytes).entries) (entries_scan bytes).fault

-- A replayer went through a file that was read, and what is told of it was appended to a text.
pub record RanRead (old new : Replayer) (text longer : List ℕ) (window : Window) (number : ℕ) (read : FileRead)
    : Type 0 where
  pub come : (life : Life) (verdicts : List Verdict) → HasCome old life verdicts
      → HasCome new (life_over_read life (Ok read)) (verdicts ++ verdicts_of_read life (Ok read))
  pub writes : (life : Life) (verdicts : List Verdict) → HasCome old life verdicts
      → longer ≡ text ++ read_text window number life (Ok read)
  pub noted : Noted old new (read.head.first == 0) read.fault

-- A replayer went through a file behind some others, and what is told of it was appended to a text.
pub record RanFile (new : Replayer) (text longer : List ℕ) (window : Window) (files : List RecordingFile)
    (file : RecordingFile) : Type 0 where
  pub replayed : IsReplayed new (files ++ file ∷ [])
  pub writes : longer ≡ text ++ file_text window (lives_over unknown_life files) file
