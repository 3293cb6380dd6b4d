-- What a call of C answers.
use Rattle.std.specs.Prelude.{ℕ}

-- done
abbrev pub status_ok : ℕ
status_ok = 0

-- the detector is closed
abbrev pub status_closed : ℕ
status_closed = 1

-- the detector is open already
abbrev pub status_open : ℕ
status_open = 2

-- a name, an address, a moment or a count is out of its form or range
abbrev pub status_bad_value : ℕ
status_bad_value = 3

-- the bytes of a datagram are no packet
abbrev pub status_bad_packet : ℕ
status_bad_packet = 4

-- the configuration doesn't pass its check
abbrev pub status_bad_config : ℕ
status_bad_config = 5

-- memory was refused
abbrev pub status_no_memory : ℕ
status_no_memory = 6

-- the detector has accepted as many events as it can
abbrev pub status_ended : ℕ
status_ended = 7

-- there are more records than C has room for
abbrev pub status_no_room : ℕ
status_no_room = 8
