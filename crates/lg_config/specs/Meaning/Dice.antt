-- The number that a node's dice start from if its file doesn't say it (this project's choice). Each member has one of
-- its own, so that members which start at one moment don't choose alike.
use Rattle.std.specs.Prelude.{ℕ, ◌%◌, ◌^◌, List, ◌∷◌, ◌++◌, take}
use Rattle.std.specs.Int.{w16, w64, from_be_bytes, to_be_bytes}
use Rattle.sha2.specs.Sha256.{sha256}
use Rattle.lg_rules.specs.declared.addr.Addr.{Addr}
use Rattle.lg_rules.specs.declared.addr.Ip.{Ip}
use Rattle.lg_rules.specs.declared.addr.Ip.TheVariants.{V4, V6}

-- the bytes of an IP address
abbrev pub ip_bytes : Ip → List ℕ
ip_bytes (V4 octets) = octets
ip_bytes (V6 octets) = octets

-- what is hashed: the name, a zero, which no name has, the bytes of the address, and the two of the port, the high one
-- first
abbrev pub own_bytes : List ℕ → Addr → List ℕ
own_bytes name addr = name ++ (0 ∷ (ip_bytes addr.ip ++ to_be_bytes w16 addr.port))

-- the first eight bytes of its SHA-256 as a number, the high one first, without the highest bit, which no number of a
-- file has
unfoldable pub own_dice : List ℕ → Addr → ℕ
own_dice name addr = from_be_bytes w64 (take 8 (sha256 (own_bytes name addr))) % 2 ^ 63
