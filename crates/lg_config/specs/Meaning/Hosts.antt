-- The names of hosts. A seed of a configuration file may be at a host, whose addresses a resolver tells (this project's
-- choice). What else a name in DNS has to be is left to the resolver.
use Rattle.std.specs.Prelude.{ℕ, Bool, ◌&&◌, ◌||◌, List, length, Option, Some, None, if◌then◌else◌}
use Rattle.std.specs.List.{list_all, list_any}
use Rattle.lg_rules.specs.Meaning.Name.{is_name_byte}
use Rattle.lg_timing.specs.Meaning.Keys.{is_within}
use Rattle.lg_config.specs.Meaning.Bounds.{most_host_bytes}

-- whether a byte is a letter
abbrev pub is_letter : ℕ → Bool
is_letter b = is_within 65 90 b || is_within 97 122 b

-- Whether a text is the name of a host: 1 to 253 bytes, each a letter, a digit or one of . _ -, and at least one of
-- them a letter. So an IPv4 address out of its form is no host.
abbrev pub is_host : List ℕ → Bool
is_host text =
    is_within 1 most_host_bytes (length text) && (list_all is_name_byte text && list_any is_letter text)

-- the host that a text names
abbrev pub host_of : List ℕ → Option (List ℕ)
host_of text = if is_host text then Some text else None
