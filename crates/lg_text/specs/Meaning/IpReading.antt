-- The IP address that a text spells.
use Rattle.std.specs.Prelude.{◌≡◌, ℕ, List, Option, Some, None, option_map}
use Rattle.std.specs.Net.Addr.{octets_of as bytes_of}
use Rattle.std.specs.Net.Grammar.{IsColonHex}
use Rattle.std.specs.Net.Reader.{read_ipv6, whole_value}
use Rattle.lg_rules.specs.declared.addr.Ip.{Ip}
use Rattle.lg_rules.specs.declared.addr.Ip.TheVariants.{V4, V6}
use Rattle.lg_text.specs.Meaning.Octets.{octets_of}

-- the sixteen bytes of an IPv6 address, spelled in one of the forms of RFC 4291, section 2.2, and nothing behind it
unfoldable pub ipv6_of : List ℕ → Option (List ℕ)
ipv6_of text = option_map bytes_of (whole_value (read_ipv6 text))

-- What that comes to: the bytes are those of the groups that a text spells by the grammar of RFC 4291, section 2.2, or
-- the text spells none.
abbrev pub IsIpv6Read : List ℕ → Option (List ℕ) → Type 0
IsIpv6Read text None = (groups : List ℕ) → ¬ (IsColonHex text groups)
IsIpv6Read text (Some bytes) = (groups : List ℕ) × IsColonHex text groups × (bytes ≡ bytes_of groups)

-- the address of these four numbers, or else the IPv6 address that a text spells
abbrev pub ip_unless_dotted : Option (List ℕ) → List ℕ → Option Ip
ip_unless_dotted None text = option_map V6 (ipv6_of text)
ip_unless_dotted (Some octets) text = Some (V4 octets)

-- an IPv4 address as A.B.C.D, or an IPv6 address
abbrev pub ip_of : List ℕ → Option Ip
ip_of text = ip_unless_dotted (octets_of text) text
