-- What a byte is, and the bytes that each packet begins with.
use Rattle.std.specs.Prelude.{ℕ, ◌<◌}

abbrev pub IsByte : ℕ → Type 0
IsByte b = b < 256

-- the magic, two bytes that tell a packet from other datagrams
abbrev pub first_magic : ℕ
first_magic = 0x53

abbrev pub second_magic : ℕ
second_magic = 0x4c
