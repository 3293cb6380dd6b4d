-- What a text of a configuration file says: an address with its port, or a seed. It is None if the text is out of its
-- form. What name, what address of IPv4 or of IPv6 and what port a text spells is said by `member_name_of`,
-- `octets_of`, `ipv6_of` and `port_of` of `lg_text`, and what host by `host_of`.
use Rattle.std.specs.Prelude.{ℕ, ◌==◌, List, [], ◌∷◌, Option, Some, None, if◌then◌else◌}
use Rattle.std.specs.Option.{option_map}
use Rattle.lg_rules.specs.declared.addr.Addr.{Addr}
use Rattle.lg_rules.specs.declared.addr.Ip.TheVariants.{V4, V6}
use Rattle.lg_text.specs.Meaning.Cutting.{colon}
use Rattle.lg_text.specs.Meaning.IpReading.{ipv6_of}
use Rattle.lg_text.specs.Meaning.Numbers.{port_of}
use Rattle.lg_config.specs.declared.host.Host.{Host}
use Rattle.lg_config.specs.declared.host.Place.{Place}
use Rattle.lg_config.specs.declared.host.Place.TheVariants as place
use Rattle.lg_config.specs.declared.seeds.SeedPlace.{SeedPlace}
use Rattle.lg_config.specs.Meaning.Bounds.{default_port}
use Rattle.lg_config.specs.Meaning.Hosts.{host_of}
pub use Rattle.lg_text.specs.Meaning.Names.{member_name_of}
pub use Rattle.lg_text.specs.Meaning.Numbers.{port_among}
pub use Rattle.lg_text.specs.Meaning.Steps.{◌>>=◌}
unfoldable pub use Rattle.lg_text.specs.Meaning.Cutting.{before, behind}
unfoldable pub use Rattle.lg_text.specs.Meaning.Octets.{octets_of}

-- the byte at which a seed is cut: `@`
abbrev pub at_sign : ℕ
at_sign = 64

-- the bytes `[` and `]`, between which an IPv6 address stands before a port
abbrev pub bracket : ℕ
bracket = 91

abbrev pub end_bracket : ℕ
end_bracket = 93

-- what stands behind a byte with which a text begins
abbrev pub rest_behind : ℕ → List ℕ → Option (List ℕ)
rest_behind byte [] = None
rest_behind byte (first ∷ rest) = if first == byte then Some rest else None

-- an IPv4 address and a port, cut at the first colon
abbrev pub ipv4_place : List ℕ → Option Addr
ipv4_place text = do
  octets ← octets_of (before colon text)
  rest ← behind colon text
  port ← port_of rest
  Some record { ip = V4 octets; port = port }

-- an IPv6 address in brackets, and a port behind a colon; the first `]` ends the address
abbrev pub ipv6_place : List ℕ → Option Addr
ipv6_place text = do
  inner ← rest_behind bracket text
  octets ← ipv6_of (before end_bracket inner)
  outer ← behind end_bracket inner
  rest ← rest_behind colon outer
  port ← port_of rest
  Some record { ip = V6 octets; port = port }

-- an IPv6 address without brackets, with this port
abbrev pub ipv6_with_port : ℕ → List ℕ → Option Addr
ipv6_with_port port text = do
  octets ← ipv6_of text
  Some record { ip = V6 octets; port = port }

-- an address and a port: of IPv4, or else of IPv6
abbrev pub place_unless_ipv4 : Option Addr → List ℕ → Option Addr
place_unless_ipv4 None text = ipv6_place text
place_unless_ipv4 (Some addr) text = Some addr

unfoldable pub address_of : List ℕ → Option Addr
address_of text = place_unless_ipv4 (ipv4_place text) text

-- the port behind an address, or this one if none stands there
abbrev pub port_or : ℕ → Option (List ℕ) → Option ℕ
port_or usual None = Some usual
port_or usual (Some text) = port_of text

-- an IPv4 address with a port behind its first colon, or with this port if it has no colon
abbrev pub ipv4_with_port : ℕ → List ℕ → Option Addr
ipv4_with_port usual text = do
  octets ← octets_of (before colon text)
  port ← port_or usual (behind colon text)
  Some record { ip = V4 octets; port = port }

-- an address with a port, or alone, and then with this port: of IPv4, or else of IPv6, in brackets before a port
abbrev pub ipv6_unless_place : Option Addr → ℕ → List ℕ → Option Addr
ipv6_unless_place None usual text = ipv6_with_port usual text
ipv6_unless_place (Some addr) usual text = Some addr

abbrev pub ipv6_unless_ipv4 : Option Addr → ℕ → List ℕ → Option Addr
ipv6_unless_ipv4 None usual text = ipv6_unless_place (ipv6_place text) usual text
ipv6_unless_ipv4 (Some addr) usual text = Some addr

unfoldable pub address_with_port : ℕ → List ℕ → Option Addr
address_with_port usual text = ipv6_unless_ipv4 (ipv4_with_port usual text) usual text

-- a host and a port, cut at the first colon
abbrev pub host_with_its_port : List ℕ → Option Host
host_with_its_port text = do
  name ← host_of (before colon text)
  rest ← behind colon text
  port ← port_of rest
  Some record { name = name; port = port }

-- a host with a port behind its first colon, or with this port if it has no colon
abbrev pub host_with_port : ℕ → List ℕ → Option Host
host_with_port usual text = do
  name ← host_of (before colon text)
  port ← port_or usual (behind colon text)
  Some record { name = name; port = port }

-- an address, or else a host
abbrev pub addr_or_host : Option Addr → Option Host → Option Place
addr_or_host None host = option_map (λ found. place.Host found) host
addr_or_host (Some addr) host = Some (place.Addr addr)

-- the place that a text spells with its port, and the one that it spells with a port or without one, and then it has
-- this port
unfoldable pub place_of : List ℕ → Option Place
place_of text = addr_or_host (address_of text) (host_with_its_port text)

unfoldable pub place_with_port : ℕ → List ℕ → Option Place
place_with_port usual text = addr_or_host (address_with_port usual text) (host_with_port usual text)

-- a seed with a name: a place with its port stands behind it
abbrev pub named_seed : List ℕ → List ℕ → Option SeedPlace
named_seed name-text place-text = do
  name ← member_name_of name-text
  found ← place_of place-text
  Some record { name = Some name; place = found }

-- a seed without a name: a place with a port, or without one, and then it is the default port
abbrev pub nameless_seed : List ℕ → Option SeedPlace
nameless_seed text = do
  found ← place_with_port default_port text
  Some record { name = None; place = found }

-- a seed, by what stands behind its first `@`; it has a name if it has such a sign
abbrev pub seed_by : List ℕ → Option (List ℕ) → Option SeedPlace
seed_by text None = nameless_seed text
seed_by text (Some place-text) = named_seed (before at_sign text) place-text

unfoldable pub seed_of_text : List ℕ → Option SeedPlace
seed_of_text text = seed_by text (behind at_sign text)
