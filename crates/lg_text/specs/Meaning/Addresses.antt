-- The text of an IP address, and of an address with its port.
use Rattle.std.specs.Prelude.{ℕ, List, [], ◌∷◌, ◌++◌, codes, decimal}
use Rattle.std.specs.List.{flat_map}
use Rattle.std.specs.Net.Addr.{segments_of}
use Rattle.std.specs.Net.Text.{ipv6_text}
use Rattle.lg_rules.specs.declared.addr.Addr.{Addr}
use Rattle.lg_rules.specs.declared.addr.Ip.{Ip}
use Rattle.lg_rules.specs.declared.addr.Ip.TheVariants.{V4, V6}

-- numbers in decimal, with points between them
abbrev pub dotted : List ℕ → List ℕ
dotted [] = []
dotted (n ∷ ns) = decimal n ++ flat_map (λ m. codes "." ++ decimal m) ns

-- An IPv4 address is A.B.C.D. An IPv6 address is as RFC 5952 has it: eight groups in hexadecimal with colons between
-- them, or `::` in place of the longest run of zero groups. One that maps an IPv4 address is `::ffff:A.B.C.D`.
abbrev pub ip_text : Ip → List ℕ
ip_text (V4 octets) = dotted octets
ip_text (V6 octets) = ipv6_text (segments_of octets)

-- an IP address as it stands before a port: one of IPv6 is in brackets (RFC 5952, section 6)
abbrev pub ip_before_port : Ip → List ℕ
ip_before_port (V4 octets) = ip_text (V4 octets)
ip_before_port (V6 octets) = codes "[" ++ ip_text (V6 octets) ++ codes "]"

-- A.B.C.D:PORT, or [ADDRESS]:PORT for IPv6
abbrev pub addr_text : Addr → List ℕ
addr_text addr = ip_before_port addr.ip ++ codes ":" ++ decimal addr.port
