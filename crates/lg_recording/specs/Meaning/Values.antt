-- What a recording has of an entry.
use Rattle.std.specs.Prelude.{ℕ, List, map}
use Rattle.lg_history.specs.Meaning.History.{Entry}

-- an entry, and for how many milliseconds the node's clock stood still since the entries that were taken before it
pub record RecordedEntry : Type 0 where
  pub entry : Entry
  pub stood_still_ms : ℕ

abbrev pub with_standstill : Entry → ℕ → RecordedEntry
with_standstill e ms = record { entry = e; stood_still_ms = ms }

-- an entry alone, and some entries alone, without what is said of the clock
abbrev pub entry_alone : RecordedEntry → Entry
entry_alone x = x.entry

abbrev pub entries_alone : List RecordedEntry → List Entry
entries_alone entries = map entry_alone entries
