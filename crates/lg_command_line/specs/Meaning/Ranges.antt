-- The greatest number of the command line, and the default of a text (this project's choice).
use Rattle.std.specs.Prelude.{ℕ, List, codes}

-- the longest run of a node, one day, in milliseconds
abbrev pub most_run_ms : ℕ
most_run_ms = 86400000

-- the address at which a running node is asked if none is given
abbrev pub default_at : List ℕ
default_at = codes "127.0.0.1:8946"
