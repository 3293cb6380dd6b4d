-- Worked texts of addresses, written and read.
use Rattle.std.specs.Prelude.{⊤, ◌≡◌, ℕ, List, [], ◌∷◌, ◌++◌, Some, None, codes, refl, replicate}
use Rattle.std.specs.Fmt.{digits}
use Rattle.std.specs.Net.Reader.{read_ipv4, read_ipv6, read_number, read_octet, read_segment, read_segments}
use Rattle.std.specs.Net.Text.{hex, hex_groups_text, ipv6_text}
use Rattle.lg_rules.specs.declared.addr.Addr.{Addr}
use Rattle.lg_rules.specs.declared.addr.Ip.TheVariants.{V4, V6}
use Rattle.lg_text.specs.Meaning.Addresses.{addr_text, ip_text}
use Rattle.lg_text.specs.Meaning.Cutting.{before, behind}
use Rattle.lg_text.specs.Meaning.IpReading.{ip_of, ipv6_of}
use Rattle.lg_text.specs.Meaning.Octets.{octets_of}

-- What has to be unfolded to compute a worked text.
unfoldable pub on_addresses : ⊤
unfolding before behind digits hex hex_groups_text ipv6_of ipv6_text octets_of
    read_ipv4 read_ipv6 read_number read_octet read_segment read_segments
on_addresses = tt

-- some zero bytes
abbrev zeros : ℕ → List ℕ
zeros count = replicate count 0

-- an address of the prefix 2001:db8, which RFC 3849 keeps for documents
abbrev documented : Addr
documented = record { ip = V6 (0x20 ∷ 0x01 ∷ 0x0d ∷ 0xb8 ∷ zeros 11 ++ 1 ∷ []); port = 7000 }

abbrev loopback : Addr
loopback = record { ip = V6 (zeros 15 ++ 1 ∷ []); port = 1 }

abbrev mapped : Addr
mapped = record { ip = V6 (zeros 10 ++ 255 ∷ 255 ∷ 192 ∷ 0 ∷ 2 ∷ 1 ∷ []); port = 7946 }

four-numbers : addr_text (record { ip = V4 (127 ∷ 0 ∷ 0 ∷ 1 ∷ []); port = 7946 }) ≡ codes "127.0.0.1:7946"
unfolding on_addresses
four-numbers = refl

in-brackets : addr_text documented ≡ codes "[2001:db8::1]:7000"
unfolding on_addresses
in-brackets = refl

without-port : ip_text documented.ip ≡ codes "2001:db8::1"
unfolding on_addresses
without-port = refl

zeros-first : addr_text loopback ≡ codes "[::1]:1"
unfolding on_addresses
zeros-first = refl

mapped-address : addr_text mapped ≡ codes "[::ffff:192.0.2.1]:7946"
unfolding on_addresses
mapped-address = refl

-- of two longest runs of zeros the first is `::`, and one zero alone is never
two-runs : ip_text (V6 (zeros 3 ++ 1 ∷ zeros 5 ++ 2 ∷ zeros 5 ++ 3 ∷ [])) ≡ codes "0:1::2:0:0:3"
unfolding on_addresses
two-runs = refl

no-address : ip_text (V6 (zeros 16)) ≡ codes "::"
unfolding on_addresses
no-address = refl

-- ---- read

a-short-form : ip_of (codes "2001:DB8::1") ≡ Some documented.ip
unfolding on_addresses
a-short-form = refl

a-mapped-form : ip_of (codes "::ffff:192.0.2.1") ≡ Some mapped.ip
unfolding on_addresses
a-mapped-form = refl

dotted-form : ip_of (codes "127.0.0.1") ≡ Some (V4 (127 ∷ 0 ∷ 0 ∷ 1 ∷ []))
unfolding on_addresses
dotted-form = refl

two-elisions : ip_of (codes "1::2::3") ≡ None
unfolding on_addresses
two-elisions = refl

with-brackets : ip_of (codes "[::1]") ≡ None
unfolding on_addresses
with-brackets = refl
