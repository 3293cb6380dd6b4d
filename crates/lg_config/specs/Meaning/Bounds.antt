-- The least and the greatest numbers of a configuration file, and the defaults for the keys that it lacks (this
-- project's choice).
use Rattle.std.specs.Prelude.{ℕ, ◌^◌, ◌-◌, List, codes}

-- the most bytes of a file
abbrev pub most_bytes : ℕ
most_bytes = 65536

-- the longest times of the node's own, in milliseconds: from one Pull of a member to the next, and by which its clock
-- passes a loop's last turn
abbrev pub most_pull_ms : ℕ
most_pull_ms = 3600000

abbrev pub most_stall_ms : ℕ
most_stall_ms = 60000

-- from one resolving of the hosts among the seeds to the next, in milliseconds: the least and the greatest time
abbrev pub least_resolve_ms : ℕ
least_resolve_ms = 1000

abbrev pub most_resolve_ms : ℕ
most_resolve_ms = 3600000

-- the least and the most that a recording takes, in units of 1,000,000 bytes
abbrev pub least_record_mb : ℕ
least_record_mb = 1

abbrev pub most_record_mb : ℕ
most_record_mb = 100000

-- the most bytes of the name of a host: those of a name in DNS, without its length bytes (RFC 1035, section 2.3.4)
abbrev pub most_host_bytes : ℕ
most_host_bytes = 253

-- the most bytes of a path
abbrev pub most_path_bytes : ℕ
most_path_bytes = 255

-- the greatest number that the dice start from: the greatest whole number of TOML
abbrev pub most_dice : ℕ
most_dice = 2 ^ 63 - 1

-- what stands for a negative number, which no key accepts: the greatest number of 64 bits
abbrev pub out_of_range : ℕ
out_of_range = 2 ^ 64 - 1

-- the defaults
abbrev pub default_address : List ℕ
default_address = codes "127.0.0.1"

abbrev pub default_port : ℕ
default_port = 7946
