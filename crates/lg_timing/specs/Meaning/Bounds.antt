-- The least and the greatest numbers (this project's choice).
use Rattle.std.specs.Prelude.{ℕ}

-- the interval of a configuration (the protocol period), in milliseconds
abbrev pub least_interval_ms : ℕ
least_interval_ms = 10

abbrev pub most_interval_ms : ℕ
most_interval_ms = 60000

-- the factors of a suspicion timeout
abbrev pub most_factor : ℕ
most_factor = 20

-- the confirmations after which a suspicion has its least timeout
abbrev pub most_confirmations : ℕ
most_confirmations = 5

-- the seeds of a configuration
abbrev pub most_seeds : ℕ
most_seeds = 16

-- the members of a table that aren't gone, this member included
abbrev pub most_live : ℕ
most_live = 256
