-- What is read of a node's clock and of its counters, and what a snapshot shows of it (this project's choice).
use Rattle.std.specs.Prelude.{◌≡◌, ℕ, ◌+◌, ◌-◌, ◌^◌, min}
use Rattle.lg_counters.specs.Meaning.Faults.{AreOfFaults}
use Rattle.lg_answers.specs.declared.snapshot.Snapshot.{Snapshot}
use Rattle.lg_status_server.specs.declared.reading.Reading.{Reading}

-- How long the node has run: its clock began at 0, and leaves out the time in which the node stood still. More than
-- 2^64 - 1 milliseconds count as so many.
abbrev pub uptime_of : Reading → ℕ
uptime_of read = min (read.moment + read.stood_still_ms) (2 ^ 64 - 1)

-- A snapshot shows what was read of the clock and of the counters, and has a row for each fault.
pub record HasRead (s : Snapshot) (read : Reading) : Type 0 where
  pub moment_is : s.moment ≡ read.moment
  pub stood_still_is : s.stood_still_ms ≡ read.stood_still_ms
  pub uptime_is : s.uptime_ms ≡ uptime_of read
  pub last_event_is : s.last_event_ms ≡ read.last_event_ms
  pub counts_are : s.counts ≡ read.counts
  pub faults_are : AreOfFaults s.dropped.items
