-- Worked texts of the address of a node, and the field `Host` of a request to it.
use Rattle.std.specs.Prelude.{⊤, ◌≡◌, ℕ, List, [], ◌∷◌, ◌++◌, Some, None, codes, refl, replicate}
use Rattle.lg_rules.specs.declared.addr.Addr.{Addr}
use Rattle.lg_rules.specs.declared.addr.Ip.TheVariants.{V4, V6}
use Rattle.lg_text.specs.Meaning.AddressExamples.{on_addresses}
use Rattle.lg_client.specs.Meaning.Addresses.{node_addr_of}
use Rattle.lg_client.specs.Meaning.Questions.{leave_text, request_text}

-- what the rows have to unfold
unfoldable by_spelling : ⊤
unfolding on_addresses node_addr_of
by_spelling = tt

-- an address of IPv6, by its sixteen bytes
abbrev of_bytes : List ℕ → ℕ → Addr
of_bytes octets port = record { ip = V6 octets; port = port }

-- ---- what spells one

-- the example of RFC 3986, section 1.1.2
of-ipv4 : node_addr_of (codes "192.0.2.16:80") ≡ Some record { ip = V4 (192 ∷ 0 ∷ 2 ∷ 16 ∷ []); port = 80 }
unfolding by_spelling
of-ipv4 = refl

-- that of RFC 5952, section 6
of-ipv6 :
    node_addr_of (codes "[2001:db8::1]:80")
    ≡ Some (of_bytes (0x20 ∷ 0x01 ∷ 0x0d ∷ 0xb8 ∷ replicate 11 0 ++ 1 ∷ []) 80)
unfolding by_spelling
of-ipv6 = refl

of-loopback : node_addr_of (codes "[::1]:8946") ≡ Some (of_bytes (replicate 15 0 ++ 1 ∷ []) 8946)
unfolding by_spelling
of-loopback = refl

-- the forms of RFC 4291, section 2.2: all groups, and an IPv4 address at the end
with-all-groups :
    node_addr_of (codes "[2001:DB8:0:0:8:800:200C:417A]:80")
    ≡ Some (of_bytes (0x20 ∷ 0x01 ∷ 0x0d ∷ 0xb8 ∷ replicate 4 0
    ++ 0x00 ∷ 0x08 ∷ 0x08 ∷ 0x00 ∷ 0x20 ∷ 0x0c ∷ 0x41 ∷ 0x7a ∷ []) 80)
unfolding by_spelling
with-all-groups = refl

with-four-numbers :
    node_addr_of (codes "[::FFFF:129.144.52.38]:80")
    ≡ Some (of_bytes (replicate 10 0 ++ 255 ∷ 255 ∷ 129 ∷ 144 ∷ 52 ∷ 38 ∷ []) 80)
unfolding by_spelling
with-four-numbers = refl

-- a port may have leading zeros
with-zeros : node_addr_of (codes "[::1]:0080") ≡ Some (of_bytes (replicate 15 0 ++ 1 ∷ []) 80)
unfolding by_spelling
with-zeros = refl

-- ---- what spells none

-- RFC 5952, section 6, advises against this form, since it has two readings
without-brackets : node_addr_of (codes "2001:db8::1:80") ≡ None
unfolding by_spelling
without-brackets = refl

without-port : node_addr_of (codes "[2001:db8::1]") ≡ None
unfolding by_spelling
without-port = refl

without-colon : node_addr_of (codes "[2001:db8::1]80") ≡ None
unfolding by_spelling
without-colon = refl

without-end : node_addr_of (codes "[2001:db8::1:80") ≡ None
unfolding by_spelling
without-end = refl

-- the example of RFC 4007, section 11
with-zone : node_addr_of (codes "[fe80::1234%1]:80") ≡ None
unfolding by_spelling
with-zone = refl

ipv4-in-brackets : node_addr_of (codes "[192.0.2.16]:80") ≡ None
unfolding by_spelling
ipv4-in-brackets = refl

octal-number : node_addr_of (codes "192.0.02.16:80") ≡ None
unfolding by_spelling
octal-number = refl

least-port : node_addr_of (codes "[::1]:0") ≡ None
unfolding by_spelling
least-port = refl

two-lines : node_addr_of (codes "[::1]:80\r\nx: 1") ≡ None
unfolding by_spelling
two-lines = refl

-- ---- the field `Host`

asks-over-ipv6 :
    request_text (codes "/v1/members") (codes "[2001:db8::1]:80")
    ≡ codes "GET /v1/members HTTP/1.1\r\nhost: [2001:db8::1]:80\r\nconnection: close\r\n\r\n"
unfolding by_spelling request_text
asks-over-ipv6 = refl

leaves-over-ipv6 :
    leave_text (codes "b") (codes "[2001:db8::1]:80")
    ≡ codes "POST /v1/leave HTTP/1.1\r\nhost: [2001:db8::1]:80\r\nlg-leave: b\r\nconnection: close\r\n\r\n"
unfolding by_spelling leave_text
leaves-over-ipv6 = refl
