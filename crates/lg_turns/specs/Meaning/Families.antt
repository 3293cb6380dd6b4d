-- Under which addresses a socket that is bound at an IPv6 address has those of IPv4: the IPv6 addresses that map them
-- (RFC 4291, section 2.5.5.2).
use Rattle.std.specs.Prelude.{◌≡◌, Bool, true, false}
use Rattle.std.specs.declared.net.ip_addr.IpAddr.{IpAddr}
use Rattle.std.specs.declared.net.ip_addr.IpAddr.TheVariants as ips
use Rattle.std.specs.declared.net.socket_addr.SocketAddr.{SocketAddr}
use Rattle.std.specs.Net.Addr.{embedded_segments, ipv6_segments, IsCanonicalOf, IsV6And}
use Rattle.std.specs.Net.Socket.{socket_ip, IsPlainSocket}
use Rattle.lg_rules.specs.declared.addr.Addr.{Addr}
use Rattle.lg_rules.specs.declared.addr.Ip.{Ip}
use Rattle.lg_rules.specs.declared.addr.Ip.TheVariants.{V4, V6}
use Rattle.lg_rules.specs.Meaning.Addr.{IsSocketOf}
use Rattle.lg_turns.specs.Meaning.Links.{HasBytesOf}

-- an IP address as it is without a map: the IPv4 address that one of IPv6 maps, and otherwise itself
abbrev pub IsUnmapped : IpAddr → IpAddr → Type 0
IsUnmapped (ips.V4 given) plain = plain ≡ ips.V4 given
IsUnmapped (ips.V6 given) plain = IsCanonicalOf given plain

-- a datagram that a socket says came from an address came from the member at this IP address
abbrev pub CameFrom : SocketAddr → Ip → Type 0
CameFrom given ip = (plain : IpAddr) × IsUnmapped (socket_ip given) plain × HasBytesOf ip plain

-- whether an IP address is one of IPv6
abbrev pub is_ipv6 : Ip → Bool
is_ipv6 (V4 octets) = false
is_ipv6 (V6 octets) = true

-- the IPv6 address that maps one of IPv4
abbrev pub IsMapped : IpAddr → IpAddr → Type 0
IsMapped (ips.V4 plain) mapped = IsV6And mapped (λ ip. ipv6_segments ip ≡ embedded_segments 0xffff plain)
IsMapped (ips.V6 plain) mapped = mapped ≡ ips.V6 plain

-- the IP address at which a socket reaches another, by whether it is bound at an IPv6 address
abbrev pub IsReachedAt : Bool → IpAddr → IpAddr → Type 0
IsReachedAt true plain reached = IsMapped plain reached
IsReachedAt false plain reached = reached ≡ plain

-- the address at which a socket reaches a member, by whether it is bound at an IPv6 address
abbrev pub GoesTo : Bool → Addr → SocketAddr → Type 0
GoesTo is_ipv6 addr reached =
    (plain : SocketAddr) × IsSocketOf addr plain × IsReachedAt is_ipv6 (socket_ip plain) (socket_ip reached)
    × IsPlainSocket reached addr.port
