-- For how long the clock of the node stood still in the minute before an entry.
use Rattle.std.specs.Prelude.{ℕ, ◌+◌, ◌-◌, ◌^◌, min, nat_lt, if◌then◌else◌, List}
use Rattle.std.specs.List.{sum_by}
use Rattle.lg_notes.specs.declared.insights.MinuteBefore.{MinuteBefore}
use Rattle.lg_explain.specs.Meaning.Rounds.{recent_ms}
use Rattle.lg_explain.specs.declared.rounds.RecentRounds.{RecentRounds}
use Rattle.lg_explain.specs.declared.standstills.StoodStill.{StoodStill}

-- what an entry at this moment says of how long the clock stood still
abbrev pub stood_at : ℕ → ℕ → StoodStill
stood_at moment milliseconds = record { moment = moment; milliseconds = milliseconds }

-- so many milliseconds, if that was less than a minute before a moment
abbrev pub recent_stood : ℕ → StoodStill → ℕ
recent_stood now stood = if nat_lt now (stood.moment + recent_ms) then stood.milliseconds else 0

-- In all so many in the minute before a moment. More than 2^64 - 1 count as so many.
abbrev pub stood_in_minute : ℕ → List StoodStill → ℕ
stood_in_minute now all = min (sum_by (recent_stood now) all) (2 ^ 64 - 1)

-- what was in the minute before an entry
abbrev pub minute_of : RecentRounds → ℕ → MinuteBefore
minute_of rounds stood = record { ended = rounds.ended; suspected = rounds.suspected; stood_still_ms = stood }
