-- What an address is: whether it is that of this machine alone, and which it is for the standard library.
use Rattle.std.specs.Prelude.{◌≡◌, ℕ, Bool, false, ◌==◌, List, [], ◌∷◌, ◌++◌, replicate}
use Rattle.std.specs.declared.net.ip_addr.IpAddr.{IpAddr}
use Rattle.std.specs.declared.net.socket_addr.SocketAddr.{SocketAddr}
use Rattle.std.specs.Net.Addr.{ipv4_octets, ipv6_segments, segments_of, IsV4And, IsV6And}
use Rattle.std.specs.Net.Socket.{socket_ip, IsPlainSocket}
use Rattle.std.specs.Str.{bytes_eq}
use Rattle.lg_rules.specs.declared.addr.Addr.{Addr}
use Rattle.lg_rules.specs.declared.addr.Ip.{Ip}
use Rattle.lg_rules.specs.declared.addr.Ip.TheVariants.{V4, V6}

-- whether the first of some bytes is this one
abbrev pub begins_with : List ℕ → ℕ → Bool
begins_with [] byte = false
begins_with (first ∷ rest) byte = first == byte

-- the bytes of ::1
abbrev pub ipv6_loopback : List ℕ
ipv6_loopback = replicate 15 0 ++ 1 ∷ []

-- Whether no other machine reaches an IP address: it is one of 127.0.0.0/8 (RFC 1122, section 3.2.1.3), or ::1 (RFC
-- 4291, section 2.5.3).
abbrev pub is_loopback : Ip → Bool
is_loopback (V4 octets) = begins_with octets 127
is_loopback (V6 octets) = bytes_eq octets ipv6_loopback

-- the same IP address: of the same family, with the same bytes
abbrev pub IsIpOf : Ip → IpAddr → Type 0
IsIpOf (V4 octets) given = IsV4And given (λ ip. ipv4_octets ip ≡ octets)
IsIpOf (V6 octets) given = IsV6And given (λ ip. ipv6_segments ip ≡ segments_of octets)

-- the same IP address and the same port; one of IPv6 has no flow information and no scope
pub record IsSocketOf (addr : Addr) (socket : SocketAddr) : Type 0 where
  pub ip : IsIpOf addr.ip (socket_ip socket)
  pub port : IsPlainSocket socket addr.port
