-- What each version of the format of packets can tell (this project's choice).
use Rattle.std.specs.Prelude.{ℕ, Bool, true, false}
use Rattle.lg_rules.specs.declared.addr.Addr.{Addr}
use Rattle.lg_rules.specs.declared.addr.Ip.{Ip}
use Rattle.lg_rules.specs.declared.addr.Ip.TheVariants.{V4, V6}
use Rattle.lg_rules.specs.declared.version.Version.{Version}
use Rattle.lg_rules.specs.declared.version.Version.TheVariants.{One, Two, Three}

-- the most claims of a packet
abbrev pub most_claims_of : Version → ℕ
most_claims_of One = 6
most_claims_of Two = 6
most_claims_of Three = 12

-- Whether it can tell an IP address. Versions one and two tell those of four bytes.
abbrev pub tells_ip : Version → Ip → Bool
tells_ip v (V4 octets) = true
tells_ip One (V6 octets) = false
tells_ip Two (V6 octets) = false
tells_ip Three (V6 octets) = true

-- whether it can tell an address
abbrev pub tells : Version → Addr → Bool
tells v addr = tells_ip v addr.ip
