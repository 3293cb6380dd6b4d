-- What a link does, call by call.
use Rattle.std.specs.Prelude.{◌≡◌, ℕ, ◌+◌, Bool, true, not}
use Rattle.std.specs.Prelude.{List, [], ◌∷◌, ◌++◌, length, take, count_by}
use Rattle.std.specs.Prelude.{Option, Some, None, Result, Ok, Err}
use Rattle.std.specs.declared.net.ip_addr.IpAddr.{IpAddr}
use Rattle.std.specs.Net.Addr.{ipv4_octets, ipv6_octets, IsV4And, IsV6And}
use Rattle.lg_rules.specs.declared.addr.Addr.{Addr}
use Rattle.lg_rules.specs.declared.addr.Ip.{Ip}
use Rattle.lg_rules.specs.declared.addr.Ip.TheVariants.{V4, V6}
use Rattle.lg_packet.specs.Meaning.Spelling.{spelling}
use Rattle.lg_detector.specs.declared.reply.Outgoing.{Outgoing}
use Rattle.lg_turns.specs.declared.link.LinkFault.{LinkFault}

-- One call of a link: a datagram with these bytes came from an address; none came, of a call that waits for one at most
-- so many milliseconds; receiving failed; or these bytes were handed over for an address, and were sent or not.
pub data LinkEvent : Type 0 where
  Received : Addr → List ℕ → LinkEvent
  Silent : ℕ → LinkEvent
  Failed : LinkEvent
  Handed : Addr → List ℕ → Bool → LinkEvent

-- the IP address of a family that has the bytes of one of the standard library, which is of the same family
abbrev pub HasBytesOf : Ip → IpAddr → Type 0
HasBytesOf (V4 octets) given = IsV4And given (λ ip. octets ≡ ipv4_octets ip)
HasBytesOf (V6 octets) given = IsV6And given (λ ip. octets ≡ ipv6_octets ip)

-- what a call of `receive` was, by how long it waits at most, what it returns and what it leaves in the buffer
abbrev pub reception : ℕ → Result (Option (Addr × ℕ)) LinkFault → List ℕ → LinkEvent
reception limit (Ok (Some came)) buffer = Received came.0 (take came.1 buffer)
reception limit (Ok None) buffer = Silent limit
reception limit (Err fault) buffer = Failed

-- The packets of a reply, handed over once each and in order, by their spellings; and which of them were sent.
abbrev pub handed : List Outgoing → List Bool → List LinkEvent
handed (o ∷ sends) (was_sent ∷ sent) = Handed o.to (spelling o.packet) was_sent ∷ handed sends sent
handed _ _ = []

-- how many were not sent
abbrev pub lost : List Bool → ℕ
lost sent = count_by not sent

-- Some packets were handed to a link, which has counted each failure. If contracts see what the link did, its log has
-- these calls.
pub record WereHanded
    (tells : Bool) (log log' : List LinkEvent) (failed failed' : ℕ) (sends : List Outgoing) (unsent : ℕ)
    : Type 0 where
  pub sent : List Bool
  pub each : length sent ≡ length sends
  pub told : tells ≡ true → log' ≡ log ++ handed sends sent
  pub unsent_is : unsent ≡ lost sent
  pub failed_is : failed' ≡ failed + unsent
