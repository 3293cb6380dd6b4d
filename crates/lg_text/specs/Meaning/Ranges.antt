-- How long an input and a number may be, and which numbers are ports (this project's choice).
use Rattle.std.specs.Prelude.{ℕ}

-- the most bytes of an input
abbrev pub most_input : ℕ
most_input = 1048576

-- the most decimal digits of a number
abbrev pub most_digits : ℕ
most_digits = 16

-- a port: no member is reached at 0, and 65535 is the greatest number of 16 bits
abbrev pub least_port : ℕ
least_port = 1

abbrev pub most_port : ℕ
most_port = 65535

-- the greatest of the four numbers of an IPv4 address, each of 8 bits
abbrev pub most_octet : ℕ
most_octet = 255
