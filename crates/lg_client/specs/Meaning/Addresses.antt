-- Which texts are the address of a node: an IP address and a port, as a configuration file spells where the status
-- server of a node listens. What address of IPv4 or of IPv6 and what port a text spells is said by `octets_of`,
-- `ipv6_of` and `port_of` of `lg_text`. The same text is the field `Host` of a request: a host and a port (RFC 9110,
-- section 7.2, and RFC 3986, section 3.2.2, by which an IPv6 address stands in brackets).
use Rattle.std.specs.Prelude.{◌≡◌, ℕ, ◌==◌, List, [], ◌∷◌, Option, Some, None, Result, Ok, Err, if◌then◌else◌}
use Rattle.lg_rules.specs.declared.addr.Addr.{Addr}
use Rattle.lg_rules.specs.declared.addr.Ip.TheVariants.{V4, V6}
use Rattle.lg_text.specs.Meaning.Cutting.{before, behind, colon}
use Rattle.lg_text.specs.Meaning.IpReading.{ipv6_of}
use Rattle.lg_text.specs.Meaning.Numbers.{port_of}
use Rattle.lg_text.specs.Meaning.Octets.{octets_of}
use Rattle.lg_text.specs.Meaning.Steps.{◌>>=◌}
use Rattle.lg_client.specs.declared.fault.AskFault.{AskFault}
use Rattle.lg_client.specs.declared.fault.AskFault.TheVariants.{Address}

-- the bytes `[` and `]`
abbrev pub open_bracket : ℕ
open_bracket = 91

abbrev pub close_bracket : ℕ
close_bracket = 93

-- what stands behind a byte, if a text begins with it
abbrev pub behind_first : ℕ → List ℕ → Option (List ℕ)
behind_first byte [] = None
behind_first byte (first ∷ rest) = if first == byte then Some rest else None

-- an IPv4 address before the first colon, and a port behind it
abbrev pub ipv4_node : List ℕ → Option Addr
ipv4_node text = do
  octets ← octets_of (before colon text)
  rest ← behind colon text
  port ← port_of rest
  Some record { ip = V4 octets; port = port }

-- an IPv6 address in brackets, which ends at the first `]`, and a port behind a colon
abbrev pub ipv6_node : List ℕ → Option Addr
ipv6_node text = do
  inner ← behind_first open_bracket text
  octets ← ipv6_of (before close_bracket inner)
  outer ← behind close_bracket inner
  rest ← behind_first colon outer
  port ← port_of rest
  Some record { ip = V6 octets; port = port }

-- the address that a text spells: one of IPv4, or else one of IPv6
abbrev pub ipv6_node_unless : Option Addr → List ℕ → Option Addr
ipv6_node_unless None text = ipv6_node text
ipv6_node_unless (Some addr) text = Some addr

unfoldable pub node_addr_of : List ℕ → Option Addr
node_addr_of text = ipv6_node_unless (ipv4_node text) text

-- the text spells an address
abbrev pub HasNodeAddress : List ℕ → Type 0
HasNodeAddress text = (addr : Addr) × (node_addr_of text ≡ Some addr)

-- the address that it spells, or the fault that it spells none
abbrev pub IsNodeAddress : List ℕ → Result Addr AskFault → Type 0
IsNodeAddress text (Ok addr) = node_addr_of text ≡ Some addr
IsNodeAddress text (Err fault) = (fault ≡ Address) × ¬ (HasNodeAddress text)
