-- An address as C has it: its bytes, its port, and which family it is of.
use Rattle.std.specs.Prelude.{ℕ, ◌++◌, List, replicate, take, ◌==◌, Option, Some, None, if◌then◌else◌}
use Rattle.lg_rules.specs.declared.addr.Addr.{Addr}
use Rattle.lg_rules.specs.declared.addr.Ip.{Ip}
use Rattle.lg_rules.specs.declared.addr.Ip.TheVariants.{V4, V6}
use Rattle.lg_c_values.specs.declared.address.LgAddress.{LgAddress}

-- the sixteen bytes that C is given for an IP address: behind the four of IPv4 stand zeros
abbrev pub c_ip : Ip → List ℕ
c_ip (V4 octets) = octets ++ replicate 12 0
c_ip (V6 octets) = octets

-- the family
abbrev pub c_family : Ip → ℕ
c_family (V4 octets) = 4
c_family (V6 octets) = 6

-- what C is given for an address
abbrev pub c_addr : Addr → LgAddress
c_addr a = record { bytes = c_ip a.ip; port = a.port; family = c_family a.ip }

-- what C is given for no address
abbrev pub no_c_addr : LgAddress
no_c_addr = record { bytes = replicate 16 0; port = 0; family = 0 }

-- the address that C tells, if the family is one of the two
abbrev pub addr_from_c : LgAddress → Option Addr
addr_from_c c =
    if c.family == 4 then Some (record { ip = V4 (take 4 c.bytes); port = c.port })
    else if c.family == 6 then Some (record { ip = V6 c.bytes; port = c.port })
    else None
