-- The bounds of this project. Each is this project's choice.
use Rattle.std.specs.Prelude.{ℕ, ◌+◌}

-- the most bytes of a name
abbrev pub most_name_bytes : ℕ
most_name_bytes = 32

-- the greatest incarnation
abbrev pub greatest_incarnation : ℕ
greatest_incarnation = 1000000000

-- the most members that are known beside this member, and with this member included
abbrev pub most_others : ℕ
most_others = 255

abbrev pub most_members : ℕ
most_members = most_others + 1

-- the most claims of a packet of any version
abbrev pub most_claims : ℕ
most_claims = 12
